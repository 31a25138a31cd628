-- Loops that search numbers, and that select those that pass a test.
--     Searching, search_begins, search_passes, search_finds, search_ends    the first from a start on that is among n numbers
--     AtPassing, at_first           a loop that goes from one number that passes to the next
--     select-first, select_next     what it has passed
--     Tallied, tallied_none, tallied_skip, tallied_more, tallied_all    numbers that pass, counted; tallied_small
--     Tallying, tallying_first, tallying_next    counted from one to the next
--     select_few                    at most n numbers are among n given ones
-- Assumes nothing.
use mathlib.Core.Bool.{Bool, true, false, cond, ◌||◌}
use mathlib.Core.List.{List, [], ◌∷◌, ◌++◌}
use mathlib.Core.Path.{◌≡◌, refl, sym, ap, ◌∙◌, subst}
use Prim.Native.Nat.{ℕ, zero, suc, ◌+◌, ◌<◌, ◌≤◌, zero-le}
use native.Mathlib.Decide.{dec_lt}
use native.Mathlib.Nat.{le_antisymm, le_refl}
use native.Mathlib.Omega.{arith}
use borrow.Author.Count.{below_more}
use borrow.Author.Tests.{eq-eqb, ne_eqb}
use lib.Dec.{eqb}
use lib.ListN.{length, length-append}
use Rattle.tables.proofs.ListLaws.{any_below_found, any_below_none, select_gap, select_more, select_skip, select_small}
use Rattle.tables.specs.Lists.{First, any_below, select}

-- ---- the first number from a start on, below a limit, that is one of f 0 .. f (n - 1)
-- The loop has gone over the first k of them, and holds the least yet; the limit where it has found none.
pub record Searching (n : ℕ) (f : ℕ → ℕ) (from limit least k : ℕ) : Type 0 where
  pub within : k ≤ n
  pub from_on : from ≤ least
  pub below : least ≤ limit
  pub least_yet : (j : ℕ) → j < k → from ≤ f j → least ≤ f j
  pub found : least < limit → any_below n (λ j. eqb (f j) least) ≡ true

module _ {n : ℕ} {f : ℕ → ℕ} {from limit : ℕ} where
  pub search_begins : from ≤ limit → Searching n f from limit limit 0
  search_begins l =
      record { within = zero-le; from_on = l; below = le_refl limit; least_yet = λ j b. absurd (omega arith); found = λ b. absurd (omega arith) }

  module _ {least k : ℕ} (s : Searching n f from limit least k) where
    -- the number that stands at k
    module _ (l : k < n) {v : ℕ} (read : v ≡ f k) where
      pub search_passes : (from ≤ v → least ≤ v) → Searching n f from limit least (k + 1)
      search_passes later =
          let yet = below_more (λ j. from ≤ f j → least ≤ f j) k s.least_yet (rw read at later) in
          record { within = omega arith; from_on = s.from_on; below = s.below; least_yet = yet; found = s.found }

      pub search_finds : from ≤ v → v < least → Searching n f from limit v (k + 1)
      search_finds b c = record {
        within = omega arith;
        from_on = b;
        below = omega (arith, s.below);
        least_yet = below_more (λ j. from ≤ f j → v ≤ f j) k (λ j d e. omega (arith, s.least_yet j d e)) (λ _. omega arith);
        found = λ _. any_below_found (λ j. eqb (f j) v) n k l (eq-eqb (f k) v (sym read));
      }

    pub search_ends : n ≤ k → First (λ c. any_below n (λ j. eqb (f j) c)) from limit least
    search_ends l = record {
      from_on = s.from_on;
      within = s.below;
      none_before = λ c b b'.
          any_below_none _ n (λ j d. ne_eqb (f j) c (λ same. omega (arith, s.least_yet j (omega (arith, s.within)) (omega arith))));
      passes = s.found;
    }

-- ---- numbers below a limit that pass a test, from one to the next
-- The loop is at the limit or at a number that passes.
pub record AtPassing (test : ℕ → Bool) (limit c : ℕ) : Type 0 where
  pub within : c ≤ limit
  pub passes : c < limit → test c ≡ true

module _ {test : ℕ → Bool} {limit c : ℕ} where
  pub at_first : {from : ℕ} → First test from limit c → AtPassing test limit c
  at_first f = record { within = f.within; passes = f.passes }

  pub select-first : First test 0 limit c → select test c ≡ []
  unfolding select
  select-first f = select_gap test 0 c f.from_on f.none_before

  pub select_next : AtPassing test limit c → c < limit → {next : ℕ} → First test (c + 1) limit next → select test next ≡ select test c ++ (c ∷ [])
  select_next s l {next} f = select_gap test (c + 1) next f.from_on f.none_before ∙ select_more test c (s.passes l)

-- ---- numbers below a limit that pass a test, counted as far as k
pub record Tallied (test : ℕ → Bool) (limit kept k : ℕ) : Type 0 where
  pub within : k ≤ limit
  pub number : kept ≡ length (select test k)

pub tallied_none : {test : ℕ → Bool} {limit : ℕ} → Tallied test limit 0 0
unfolding select
tallied_none = record { within = zero-le; number = refl }

module _ {test : ℕ → Bool} {limit kept k : ℕ} (h : Tallied test limit kept k) where
  pub tallied_small : kept ≤ k
  tallied_small = omega (arith, h.number, select_small test k)

  pub tallied_all : limit ≤ k → kept ≡ length (select test limit)
  tallied_all l = subst (λ (j : ℕ). kept ≡ length (select test j)) (le_antisymm h.within l) h.number

  with_this : {next : ℕ} → next ≤ limit → select test next ≡ select test k ++ (k ∷ []) → Tallied test limit (kept + 1) next
  with_this b e = record { within = b; number = omega (arith, h.number, ap length e, length-append (select test k) (k ∷ [])) }

  -- one number after another, by what was found of k
  module _ (l : k < limit) {r : Bool} (is : r ≡ test k) where
    pub tallied_skip : r ≡ false → Tallied test limit kept (k + 1)
    tallied_skip e = record { within = omega arith; number = h.number ∙ ap length (sym (select_skip test k (sym is ∙ e))) }

    pub tallied_more : r ≡ true → Tallied test limit (kept + 1) (k + 1)
    tallied_more e = with_this (omega arith) (select_more test k (sym is ∙ e))

-- from one that passes to the next
pub record Tallying (test : ℕ → Bool) (limit kept c : ℕ) : Type 0 where
  pub here : AtPassing test limit c
  pub tallied : Tallied test limit kept c

module _ {test : ℕ → Bool} {limit c : ℕ} where
  pub tallying_first : First test 0 limit c → Tallying test limit 0 c
  tallying_first f = record { here = at_first f; tallied = record { within = f.within; number = sym (ap length (select-first f)) } }

  pub tallying_next : {kept next : ℕ} → Tallying test limit kept c → c < limit → First test (c + 1) limit next → Tallying test limit (kept + 1) next
  tallying_next h l f = record { here = at_first f; tallied = with_this h.tallied f.within (select_next h.here l f) }

-- ---- how many pass
-- a number where it passes
abbrev one : Bool → ℕ → List ℕ
one b n = cond b (n ∷ []) []

one_or : (x y : Bool) (n : ℕ) → length (one (x || y) n) ≤ length (one x n) + length (one y n)
one_or true y n = omega arith
one_or false y n = omega arith

select_size : (test : ℕ → Bool) (m : ℕ) → length (select test (suc m)) ≡ length (select test m) + length (one (test m) m)
unfolding select
select_size test m = length-append (select test m) (one (test m) m)

select_or : (a b : ℕ → Bool) (m : ℕ) → length (select (λ c. a c || b c) m) ≤ length (select a m) + length (select b m)
unfolding select
select_or a b zero = omega arith
select_or a b (suc m) =
    omega (arith, select_size (λ c. a c || b c) m, select_size a m, select_size b m, one_or (a m) (b m) m, select_or a b m)

select_same : (x m : ℕ) → length (select (eqb x) m) ≤ 1
unfolding select
select_same x m = go (dec_lt x m)
  where
    before : (k : ℕ) → k ≤ x → length (select (eqb x) k) ≡ 0
    before k l = ap length (select_gap (eqb x) 0 k zero-le (λ c _ b. ne_eqb x c (λ e. omega (arith, e))))

    go : Dec (x < m) → length (select (eqb x) m) ≤ 1
    go (no h) = omega (arith, before m (omega arith))
    go (yes h) =
        let after = select_gap (eqb x) (suc x) m h (λ c b _. ne_eqb x c (λ e. omega (arith, e))) in
        omega (arith, ap length after, select_size (eqb x) x, before x (le_refl x), ap (λ (b : Bool). length (one b x)) (eq-eqb x x refl))

pub select_few : (f : ℕ → ℕ) (n m : ℕ) → length (select (λ c. any_below n (λ k. eqb (f k) c)) m) ≤ n
unfolding any_below select
select_few f zero m = omega (arith, ap length (select_gap (λ c. false) 0 m zero-le (λ c _ _. refl)))
select_few f (suc n) m =
    omega (arith, select_or (eqb (f n)) (λ c. any_below n (λ k. eqb (f k) c)) m, select_same (f n) m, select_few f n m)
