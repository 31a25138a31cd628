-- What chains over the numbers below n find.
--     any_of_range, filter_of_range    whether one passes a test; those that pass
--     sum_of_sizes                     how many entries n lists have
-- Assumes nothing.
use mathlib.Core.Bool.{Bool, cond, ◌||◌}
use mathlib.Core.List.{List, [], ◌∷◌, ◌++◌, map}
use mathlib.Core.Path.{◌≡◌, refl, sym, ap, ap₂, ◌∙◌}
use Prim.Native.Nat.{ℕ, zero, suc, ◌+◌}
use native.Mathlib.Numerals.{add-one}
use native.Mathlib.Omega.{arith}
use lib.ListN.{length, length-append}
use Rattle.std.proofs.Math.Bool.{or_comm}
use Rattle.std.proofs.lemmas.List.{map-id}
use Rattle.std.proofs.lemmas.List.Elements.{filter-append}
use Rattle.std.proofs.lemmas.List.Folds.{list_any-append}
use Rattle.std.proofs.lemmas.List.FromFn.{map-range_with_len_more, sum_by-map-range_with_len_more}
use Rattle.std.specs.List.{filter, list_any, range_with_len, sum}
use Rattle.tables.proofs.ListLaws.{or_none}
use Rattle.tables.specs.Lists.{any_below, rows, select}

range_more : (n : ℕ) → range_with_len 0 (suc n) ≡ range_with_len 0 n ++ (n ∷ [])
range_more n =
    ap (range_with_len 0) (sym (add-one n)) ∙ sym (map-id (range_with_len 0 (n + 1))) ∙ map-range_with_len_more (λ (x : ℕ). x) 0 n n (omega arith)
    ∙ ap (λ (xs : List ℕ). xs ++ (n ∷ [])) (map-id (range_with_len 0 n))

module _ (test : ℕ → Bool) where
  pub any_of_range : (n : ℕ) → list_any test (range_with_len 0 n) ≡ any_below n test
  unfolding any_below
  any_of_range zero = refl
  any_of_range (suc n) =
      ap (list_any test) (range_more n) ∙ list_any-append test (range_with_len 0 n) (n ∷ [])
      ∙ ap₂ (λ (a b : Bool). a || b) (any_of_range n) (or_none (test n)) ∙ or_comm (any_below n test) (test n)

  pub filter_of_range : (n : ℕ) → filter test (range_with_len 0 n) ≡ select test n
  unfolding select
  filter_of_range zero = refl
  filter_of_range (suc n) =
      ap (filter test) (range_more n) ∙ filter-append test (range_with_len 0 n) (n ∷ [])
      ∙ ap (λ (xs : List ℕ). xs ++ cond (test n) (n ∷ []) []) (filter_of_range n)

-- ---- how many entries n lists have, by their lengths
module _ {A : Type 0} (g : ℕ → List A) (size : ℕ → ℕ) (sizes : (k : ℕ) → size k ≡ length (g k)) where
  pub sum_of_sizes : (n : ℕ) → sum (map size (range_with_len 0 n)) ≡ length (rows g n)
  unfolding rows
  sum_of_sizes zero = refl
  sum_of_sizes (suc n) =
      ap (λ (k : ℕ). sum (map size (range_with_len 0 k))) (sym (add-one n)) ∙ sum_by-map-range_with_len_more (λ (x : ℕ). x) size 0 n n (omega arith)
      ∙ ap₂ (λ (x y : ℕ). x + y) (sum_of_sizes n) (sizes n) ∙ sym (length-append (rows g n) (g n))
