-- Laws of bits in a buffer.
--     shifted, masked, or_ed           a bit as the code asks for it and sets it
--     member_or                        the bits of a number that is or_ed with another
--     with_here, with_elsewhere, with_length, with_beyond    a buffer with a bit set
--     onwards_all                      behind a set bit of a row all are set
--     Rowing, row_inside, row_more, row_stops    the invariant of the loop that sets a row of bits
--     cleared-length .. cleared_bit, filled_cleared, cleared_again    a buffer whose first bytes are cleared
--     unset_fewer, unset_falls         how many bits are not set; none cleared, and one set
-- Assumes nothing.
use mathlib.Core.Bool.{Bool, true, false, cond, not, ◌||◌, false≢true, or-true}
use mathlib.Core.List.{List, ◌++◌}
use mathlib.Core.Path.{◌≡◌, refl, sym, ap, ap₂, ◌∙◌, subst, subst⁻¹}
use Prim.Native.Nat.{ℕ, zero, suc, ◌+◌, ◌*◌, ◌-◌, ◌/◌, ◌%◌, ◌^◌, ◌≤◌, ◌<◌, max}
use native.Mathlib.Decide.{dec_lt, ℕ_discrete}
use native.Mathlib.Nat.{le_refl, mod-lt}
use native.Mathlib.Omega.{arith}
use borrow.Author.Tests.{eq-eqb, ne_eqb}
use lib.Bits.{bit_and, bit_or, or_shr, or_step}
use lib.Dec.{eqb, lit<}
use lib.ListN.{drop, get_or, length, length-append, length-drop, length-replicate, length-set, replicate, set, take, get_or-replicate, get_or-append}
use lib.Seq.{ext_get_or, get_or-append-add, get_or-drop, get_or-set_other, get_or-set_same, length-take-le}
use Rattle.marks.specs.Bits.{Onwards, SetFrom, bit_at, unset, with_bit}
use Rattle.marks.specs.Room.{cleared}
use Rattle.process_set.proofs.SetLaws.{mask_is_member, member_one, no-member_from, one_shifted}
use Rattle.process_set.specs.Sets.{member}
use Rattle.tables.proofs.ListLaws.{or_none}

-- ---- one bit
-- the value of bit b of its byte, as the code shifts it
pub shifted : (b : ℕ) → (1 * 2 ^ (b % 8)) % 256 ≡ 2 ^ (b % 8)
shifted b = one_shifted 8 (b % 8) (mod-lt b (lit< tt))

pub masked : (buffer : List ℕ) (b : ℕ) → not (eqb (bit_and (get_or buffer (b / 8) 0) ((1 * 2 ^ (b % 8)) % 256)) 0) ≡ bit_at buffer b
unfolding bit_at
masked buffer b = rw (shifted b) (mask_is_member (get_or buffer (b / 8) 0) (b % 8))

pub or_ed : (buffer : List ℕ) (b : ℕ) → set buffer (b / 8) (bit_or (get_or buffer (b / 8) 0) ((1 * 2 ^ (b % 8)) % 256)) ≡ with_bit buffer b
unfolding with_bit
or_ed buffer b = rw (shifted b)

digits_or : (a b : ℕ) → a < 2 → b < 2 → eqb (max a b) 1 ≡ (eqb a 1 || eqb b 1)
digits_or zero zero h h' = refl
digits_or zero (suc zero) h h' = refl
digits_or (suc zero) zero h h' = refl
digits_or (suc zero) (suc zero) h h' = refl
digits_or zero (suc (suc b)) h h' = absurd (omega arith)
digits_or (suc zero) (suc (suc b)) h h' = absurd (omega arith)
digits_or (suc (suc a)) b h h' = absurd (omega arith)

pub member_or : (a b k : ℕ) → member (bit_or a b) k ≡ (member a k || member b k)
unfolding member
member_or a b k =
    let x = a / 2 ^ k in
    let y = b / 2 ^ k in
    let digit-x : x % 2 < 2 = mod-lt x (lit< tt) in
    let digit-y : y % 2 < 2 = mod-lt y (lit< tt) in
    let digit : bit_or x y % 2 ≡ max (x % 2) (y % 2) = omega (arith, or_step x y) in
    ap (λ (n : ℕ). eqb (n % 2) 1) (or_shr a b k) ∙ ap (λ (n : ℕ). eqb n 1) digit ∙ digits_or (x % 2) (y % 2) digit-x digit-y

module _ (buffer : List ℕ) (b : ℕ) where
  pub with_length : length (with_bit buffer b) ≡ length buffer
  unfolding with_bit
  with_length = length-set buffer (b / 8) _

  pub with_beyond : (i : ℕ) → (i ≡ b / 8 → ⊥) → get_or (with_bit buffer b) i 0 ≡ get_or buffer i 0
  unfolding with_bit
  with_beyond i other = get_or-set_other buffer (b / 8) i _ 0 other

  module _ (inside : b / 8 < length buffer) where
    -- the bits of the byte that was changed
    same_byte : (k : ℕ) → member (get_or (with_bit buffer b) (b / 8) 0) k ≡ (member (get_or buffer (b / 8) 0) k || eqb k (b % 8))
    unfolding with_bit
    same_byte k =
        ap (λ (x : ℕ). member x k) (get_or-set_same buffer (b / 8) _ 0 inside)
        ∙ member_or (get_or buffer (b / 8) 0) (2 ^ (b % 8)) k ∙ ap (λ (x : Bool). member (get_or buffer (b / 8) 0) k || x) (member_one (b % 8) k)

    pub with_here : bit_at (with_bit buffer b) b ≡ true
    unfolding bit_at
    with_here =
        same_byte (b % 8) ∙ ap (λ (x : Bool). member (get_or buffer (b / 8) 0) (b % 8) || x) (eq-eqb (b % 8) (b % 8) refl)
        ∙ or-true (member (get_or buffer (b / 8) 0) (b % 8))

    pub with_elsewhere : (b' : ℕ) → (b' ≡ b → ⊥) → bit_at (with_bit buffer b) b' ≡ bit_at buffer b'
    unfolding bit_at
    with_elsewhere b' other = go (ℕ_discrete (b' / 8) (b / 8))
      where
        go : Dec (b' / 8 ≡ b / 8) → member (get_or (with_bit buffer b) (b' / 8) 0) (b' % 8) ≡ member (get_or buffer (b' / 8) 0) (b' % 8)
        go (yes same) =
            let apart : b' % 8 ≡ b % 8 → ⊥ = λ e. other (omega arith) in
            subst⁻¹ (λ (i : ℕ). member (get_or (with_bit buffer b) i 0) (b' % 8) ≡ member (get_or buffer i 0) (b' % 8)) same
            (same_byte (b' % 8) ∙ ap (λ (x : Bool). member (get_or buffer (b / 8) 0) (b' % 8) || x) (ne_eqb (b' % 8) (b % 8) apart)
            ∙ or_none (member (get_or buffer (b / 8) 0) (b' % 8)))
        go (no apart) = ap (λ (x : ℕ). member x (b' % 8)) (with_beyond (b' / 8) apart)

-- ---- a row of bits
module _ {from end : ℕ} {buffer : List ℕ} (o : Onwards from end buffer) where
  on_by : (b d : ℕ) → from ≤ b → b + d < end → bit_at buffer b ≡ true → bit_at buffer (b + d) ≡ true
  on_by b zero l inside e =
      let here : b + zero ≡ b = omega arith in
      subst⁻¹ (λ (x : ℕ). bit_at buffer x ≡ true) here e
  on_by b (suc d) l inside e =
      let place : b + suc d ≡ suc (b + d) = omega arith in
      subst⁻¹ (λ (x : ℕ). bit_at buffer x ≡ true) place (o.next (b + d) (omega arith) (omega arith) (on_by b d l (omega arith) e))

  pub onwards_all : (b x : ℕ) → from ≤ b → b ≤ x → x < end → bit_at buffer b ≡ true → bit_at buffer x ≡ true
  onwards_all b x l l' inside e =
      let place : b + (x - b) ≡ x = omega arith in
      subst (λ (x : ℕ). bit_at buffer x ≡ true) place (on_by b (x - b) l (omega arith) e)

-- The loop stands before bit b: the bits from the first to it are set, and the others are as they were.
pub record Rowing (from end : ℕ) (before after : List ℕ) (b : ℕ) : Type 0 where
  pub given : Onwards from end before
  pub room : end ≤ 8 * length after
  pub begun : from ≤ b
  pub within : b ≤ max from end
  pub same_length : length after ≡ length before
  pub all_set : (x : ℕ) → from ≤ x → x < b → bit_at after x ≡ true
  pub others : (x : ℕ) → (from ≤ x → b ≤ x) → bit_at after x ≡ bit_at before x
  pub beyond : (i : ℕ) → end ≤ 8 * i → get_or after i 0 ≡ get_or before i 0

module _ {from end : ℕ} {before after : List ℕ} {b : ℕ} (r : Rowing from end before after b) where
  pub row_inside : b < end → b / 8 < length after
  row_inside l = omega (arith, r.room)

  pub row_more : b < end → {later : List ℕ} → later ≡ with_bit after b → Rowing from end before later (b + 1)
  row_more l put = rw put record {
    given = r.given;
    room = omega (arith, r.room, with_length after b);
    begun = omega (arith, r.begun);
    within = omega (arith, r.begun);
    same_length = with_length after b ∙ r.same_length;
    all_set = λ x l l'. set_here x l l' (ℕ_discrete x b);
    others = λ x out. with_elsewhere after b (row_inside l) x (λ e. omega (arith, r.begun, out (omega (arith, r.begun, e))))
        ∙ r.others x (λ e. omega (arith, out e));
    beyond = λ i l'. with_beyond after b i (λ e. omega arith) ∙ r.beyond i l';
  }
    where
      set_here : (x : ℕ) → from ≤ x → x < b + 1 → Dec (x ≡ b) → bit_at (with_bit after b) x ≡ true
      set_here x m m' (yes same) = subst⁻¹ (λ (x : ℕ). bit_at (with_bit after b) x ≡ true) same (with_here after b (row_inside l))
      set_here x m m' (no other) = with_elsewhere after b (row_inside l) x other ∙ r.all_set x m (omega arith)

  -- or it meets a bit that is set, and so are those behind it
  pub row_stops : b < end → bit_at after b ≡ true → SetFrom from end before after
  row_stops l e = record {
    same_length = r.same_length;
    all_set = λ x m m'. by_place x m m' (dec_lt x b);
    others = λ x out. r.others x (λ m. omega (arith, out m));
    beyond = r.beyond;
  }
    where
      by_place : (x : ℕ) → from ≤ x → x < end → Dec (x < b) → bit_at after x ≡ true
      by_place x m m' (yes k) = r.all_set x m k
      by_place x m m' (no k) =
          r.others x (λ _. omega arith)
          ∙ onwards_all r.given b x r.begun (omega arith) m' (sym (r.others b (λ _. le_refl b)) ∙ e)

-- ---- a buffer whose first bytes are cleared
abbrev zeros : ℕ → List ℕ
zeros size = replicate size 0

zeros_length : (size : ℕ) → length (zeros size) ≡ size
zeros_length size = length-replicate {A = ℕ} size 0

module _ (size : ℕ) (buffer : List ℕ) (fits : size ≤ length buffer) where
  pub cleared-length : length (cleared size buffer) ≡ length buffer
  unfolding cleared
  cleared-length = length-append (zeros size) (drop size buffer) ∙ ap₂ ◌+◌ (zeros_length size) (length-drop size buffer) ∙ omega arith

  pub cleared_front : (i : ℕ) → i < size → get_or (cleared size buffer) i 0 ≡ 0
  unfolding cleared
  cleared_front i l = get_or-append (zeros size) (drop size buffer) 0 i (omega (arith, zeros_length size)) ∙ get_or-replicate size i 0 0 l

  pub cleared_beyond : (i : ℕ) → size ≤ i → get_or (cleared size buffer) i 0 ≡ get_or buffer i 0
  unfolding cleared
  cleared_beyond i l =
      let place : i ≡ length (zeros size) + (i - size) = omega (arith, zeros_length size) in
      let back : size + (i - size) ≡ i = omega arith in
      ap (λ (x : ℕ). get_or (zeros size ++ drop size buffer) x 0) place ∙ get_or-append-add (zeros size) (drop size buffer) (i - size) 0
      ∙ get_or-drop size buffer (i - size) 0 ∙ ap (λ (x : ℕ). get_or buffer x 0) back

  pub cleared_bit : (b : ℕ) → b / 8 < size → bit_at (cleared size buffer) b ≡ false
  unfolding bit_at
  cleared_bit b l = ap (λ (x : ℕ). member x (b % 8)) (cleared_front (b / 8) l) ∙ no-member_from 0 0 (b % 8) (omega arith) (omega arith)

  -- as the code fills its front
  pub filled_cleared : {front : List ℕ} → front ≡ replicate (length (take size buffer)) 0 → front ++ drop size buffer ≡ cleared size buffer
  unfolding cleared
  filled_cleared e = ap (λ (l : List ℕ). l ++ drop size buffer) (e ∙ ap zeros (length-take-le size buffer fits))

-- a buffer that differs in the first bytes alone
pub cleared_again : (size : ℕ) (before after : List ℕ) → length after ≡ length before → ((i : ℕ) → size ≤ i
    → get_or after i 0 ≡ get_or before i 0)
    → cleared size after ≡ cleared size before
unfolding cleared
cleared_again size before after e same =
    ap (λ (l : List ℕ). zeros size ++ l)
    (ext_get_or 0 (drop size after) (drop size before) (length-drop size after ∙ ap (λ (n : ℕ). n - size) e ∙ sym (length-drop size before))
    (λ i l. get_or-drop size after i 0 ∙ same (size + i) (omega arith) ∙ sym (get_or-drop size before i 0)))

-- ---- how many bits are not set
abbrev one : Bool → ℕ
one set = cond set 0 1

module _ (before after : List ℕ) where
  -- what is set stays set
  abbrev Stay : ℕ → Type 0
  Stay n = (b : ℕ) → b < n → bit_at before b ≡ true → bit_at after b ≡ true

  one_fewer : (x y : Bool) → (x ≡ true → y ≡ true) → one y ≤ one x
  one_fewer true true h = omega arith
  one_fewer true false h = absurd (false≢true (h refl))
  one_fewer false true h = omega arith
  one_fewer false false h = omega arith

  pub unset_fewer : (n : ℕ) → Stay n → unset after n ≤ unset before n
  unfolding unset
  unset_fewer zero stay = omega arith
  unset_fewer (suc n) stay =
      omega (arith, unset_fewer n (λ b l. stay b (omega arith)), one_fewer (bit_at before n) (bit_at after n) (stay n (omega arith)))

  pub unset_falls : (n : ℕ) → Stay n → (b : ℕ) → b < n → bit_at before b ≡ false → bit_at after b ≡ true → unset after n < unset before n
  unfolding unset
  unset_falls zero stay b l was is = absurd (omega arith)
  unset_falls (suc n) stay b l was is = go (ℕ_discrete b n) (λ k. unset_falls n (λ b l. stay b (omega arith)) b k was is)
    where
      below : Stay n
      below b l = stay b (omega arith)

      go : Dec (b ≡ n) → (b < n → unset after n < unset before n)
          → unset after n + one (bit_at after n) < unset before n + one (bit_at before n)
      go (yes same) fall =
          omega (arith, ap one (ap (bit_at before) (sym same) ∙ was), ap one (ap (bit_at after) (sym same) ∙ is), unset_fewer n below)
      go (no other) fall =
          omega (arith, fall (omega arith), one_fewer (bit_at before n) (bit_at after n) (stay n (omega arith)))
