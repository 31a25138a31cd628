-- Laws of process sets: the value of a bit, which bits of a number are set, and what a mask and a comparison tell of them.
-- Assumes nothing.
use mathlib.Core.Path.{◌≡◌, refl, sym, ap, ◌∙◌}
use mathlib.Core.Bool.{Bool, true, false, not, ◌&&◌}
use Prim.Native.Nat.{ℕ, zero, suc, ◌+◌, ◌-◌, ◌*◌, ◌/◌, ◌%◌, ◌^◌, ◌≤◌, ◌<◌}
use native.Mathlib.Nat.{le_refl, le_trans, le_of_suc-le-suc, lt_of_lt_of_le, lt_of_not-le, not-le_of_lt}
use native.Mathlib.Nat.{zero-mul, one-mul, pow-suc, pow-succ', div-eq_of_lt, div-lt_iff_lt-mul, le-div_iff_mul-le, mod-lt, mul-mod_left}
use native.Mathlib.Omega.{arith}
use lib.Dec.{eqb, leb, ltb, lit<}
use lib.Pow.{pow_pos, pow_mono, pow-lt, pow-add, shl_exact, shl-shr, high_ones}
use lib.Bits.{bit_and, and_high}
use lib.Count.{leading_top}
use borrow.Author.Tests.{eqb-true, eqb-false, leb-true, leb-false, ltb-true, ltb-false, le-leb, lt-leb, ne_eqb, not-false}
use Rattle.process_set.specs.Sets.{all_processes, high_bit, member}
use Rattle.tables.proofs.ListLaws.{any_below_found, any_below_none, none_below}
use Rattle.tables.specs.Lists.{any_below}

-- ---- the value of a bit

-- One, shifted by less than the width of its number, loses nothing: it is a power of two.
pub one_shifted : (width k : ℕ) → k < width → (1 * 2 ^ k) % 2 ^ width ≡ 2 ^ k
one_shifted width k inside = shl_exact {a = 1} 1 k width (omega arith) (omega arith) ∙ one-mul (2 ^ k)

-- ---- a test of the numbers below n

-- A test that no number below n fails, passes at each. Where n is written out, antt computes the premise, and `refl` proves it.
passes_below : (n : ℕ) (test : ℕ → Bool) → any_below n (λ p. not (test p)) ≡ false → (p : ℕ) → p < n → test p ≡ true
passes_below n test e p h = not-false (test p) (none_below (λ k. not (test k)) n e p h)

-- ---- the members of a set

-- A set below 2 ^ n has no member from n on.
pub no-member_from : (set n p : ℕ) → set < 2 ^ n → n ≤ p → member set p ≡ false
unfolding member
no-member_from set n p small l = rw (div-eq_of_lt {n = set} {m = 2 ^ p} (lt_of_lt_of_le small (pow_mono l)))

-- The highest bit is a member: the set holds that power of two once, and not twice.
pub top_member : (set j : ℕ) → 2 ^ j ≤ set → set < 2 ^ suc j → member set j ≡ true
unfolding member
top_member set j l h =
    let once : 1 ≤ set / 2 ^ j = (le-div_iff_mul-le (pow_pos j)).1 (omega arith) in
    let not-twice : set / 2 ^ j < 2 = (div-lt_iff_lt-mul (pow_pos j)).1 (omega (arith, pow-succ' 2 j)) in
    let quotient : set / 2 ^ j ≡ 1 = omega arith in
    rw quotient

-- Divided by a lower power of two, a power of two is still even.
no-lower-member : (m p : ℕ) → member (2 ^ (suc m + p)) p ≡ false
unfolding member
no-lower-member m p = rw (pow-add 2 (suc m) p, shl-shr (2 ^ suc m) p, pow-suc 2 m, mul-mod_left (2 ^ m) 2)

pub member_one : (k p : ℕ) → member (2 ^ k) p ≡ eqb p k
member_one k p = go (eqb p k) refl
  where
    above_k : 2 ^ k < 2 ^ suc k
    above_k = pow-lt (le_refl (suc k))

    other : (b : Bool) → ltb p k ≡ b → (p ≡ k → ⊥) → member (2 ^ k) p ≡ false
    other true e apart =
        let distance : k ≡ suc (k - suc p) + p = omega (arith, ltb-true p k e) in
        ap (λ (x : ℕ). member (2 ^ x) p) distance ∙ no-lower-member (k - suc p) p
    other false e apart = no-member_from (2 ^ k) (suc k) p above_k (omega (arith, ltb-false p k e))

    go : (b : Bool) → eqb p k ≡ b → member (2 ^ k) p ≡ b
    go true e = ap (member (2 ^ k)) (eqb-true p k e) ∙ top_member (2 ^ k) k (le_refl (2 ^ k)) above_k
    go false e = other (ltb p k) refl (eqb-false p k e)

pub all-member : (p : ℕ) → p < 32 → member all_processes p ≡ true
unfolding member any_below all_processes
all-member = passes_below 32 (member all_processes) refl

-- ---- the mask of one bit

-- One bit is the run of bits from p to p, which `and_high` masks.
pub and_bit : (set p : ℕ) → bit_and set (2 ^ p) ≡ (set / 2 ^ p % 2) * 2 ^ p
and_bit set p = ap (bit_and set) (sym (high_ones 1 p ∙ one-mul (2 ^ p))) ∙ and_high set 1 p

digit_is_one : (d x : ℕ) → d < 2 → 0 < x → not (eqb (d * x) 0) ≡ eqb d 1
digit_is_one zero x h positive = rw (zero-mul x)
digit_is_one (suc zero) x h positive = rw (one-mul x, ne_eqb x 0 (λ e. omega arith))
digit_is_one (suc (suc d)) x h positive = absurd (omega arith)

-- The mask leaves something of a set just where the process is a member.
pub mask_is_member : (set p : ℕ) → not (eqb (bit_and set (2 ^ p)) 0) ≡ member set p
unfolding member
mask_is_member set p = rw (and_bit set p) (digit_is_one (set / 2 ^ p % 2) (2 ^ p) (mod-lt (set / 2 ^ p) (lit< tt)) (pow_pos p))

-- ---- a member from n on

pub no_high_bit_from_32 : (set n : ℕ) → 32 ≤ n → high_bit set n ≡ false
unfolding high_bit
no_high_bit_from_32 set n l = any_below_none (λ p. leb n p && member set p) 32 (λ p h. rw (lt-leb n p (omega arith)))

-- From 2 ^ n on, a set's highest bit stands at n or above; a lower set has no bit there.
pub high_bit_is : (set n : ℕ) → set < 2 ^ 32 → high_bit set n ≡ leb (2 ^ n) set
unfolding high_bit
high_bit_is set n fits = go (leb (2 ^ n) set) refl
  where
    go : (b : Bool) → leb (2 ^ n) set ≡ b → high_bit set n ≡ b
    go true e =
        let large : 2 ^ n ≤ set = leb-true (2 ^ n) set e in
        let top = leading_top 32 set (lt_of_lt_of_le (pow_pos n) large) fits in
        let j = top.0 in
        let from-n : n ≤ j = le_of_suc-le-suc (lt_of_not-le (λ (past : suc j ≤ n). not-le_of_lt top.3 (le_trans (pow_mono past) large))) in
        any_below_found (λ p. leb n p && member set p) 32 j (omega (arith, top.1)) (rw (le-leb n j from-n) (top_member set j top.2 top.3))
    go false e = any_below_none (λ p. leb n p && member set p) 32 (λ p l. outside p (leb n p) refl)
      where
        outside : (p : ℕ) (b : Bool) → leb n p ≡ b → b && member set p ≡ false
        outside p true l = no-member_from set n p (leb-false (2 ^ n) set e) (leb-true n p l)
        outside p false l = refl
