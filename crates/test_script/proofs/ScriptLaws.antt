-- Lists that a line says.
--     is_tabulated    a list is that of its entries
--     extended_put    the list that some numbers begin, once they stand in front of the last of them
--     digits_alone    a part of a text, cut at whatever is no digit
-- Assumes nothing.
use Rattle.std.proofs.Common.{Bool, true, false, not, List, ◌∷◌, ◌++◌, drop, get_or, length, replicate, take}
use Rattle.std.proofs.Common.{ℕ, ◌<◌, ◌≤◌, ◌-◌, ◌≡◌, arith, min, zero-le}
use Rattle.std.proofs.lemmas.Grind.{common_steps}
use Rattle.std.specs.Bool.{MatchBool}
use Rattle.std.specs.Char.{is_ascii_digit}
use Rattle.tables.proofs.ListLaws.{tabulate-get_or, tabulate_ext}
use Rattle.tables.specs.Lists.{tabulate}
use Rattle.test_script.specs.Scripts.{extended}
use native.Mathlib.Decide.{dec_lt}

-- A list is that of its entries.
pub is_tabulated : {A : Type 0} (l : List A) (n : ℕ) (f : ℕ → A) (d : A) → length l ≡ n
    → ((k : ℕ) → k < n → get_or l k d ≡ f k) → l ≡ tabulate n f
is_tabulated l n f d long each = rw (← tabulate-get_or l d, long) (tabulate_ext n _ _ each)

module _ {A : Type 0} (numbers : List A) (n : ℕ) (none : A) {len : ℕ} {last : A} (is : len ≡ min (length numbers) n)
    (goes_on : last ≡ get_or numbers (length numbers - 1) none) where
  entry : (k : ℕ) → k < n → Dec (k < len) → get_or (take len numbers ++ drop len (replicate n last)) k none ≡ extended none numbers k
  entry k l (yes here) = grind (arith, common_steps)
  entry k l (no behind) = grind (arith, common_steps)

  -- The numbers of a list stand in front of the last of them.
  pub extended_put : take len numbers ++ drop len (replicate n last) ≡ tabulate n (extended none numbers)
  extended_put = is_tabulated _ n _ none (grind (arith, common_steps)) (λ k l. entry k l (dec_lt k len))

-- A part of a text, cut at whatever is no digit, has digits alone.
pub digits_alone : (last : Bool) (text part more : List ℕ)
    → MatchBool last (text ≡ part) ((other : ℕ) × (text ≡ part ++ (other ∷ more)))
    → ((k d : ℕ) → 0 ≤ k → k < length part → not (is_ascii_digit (get_or text k d)) ≡ false)
    → (k : ℕ) → k < length part → 48 ≤ get_or part k 0
digits_alone true text part more cut digits k l = let d = digits k 0 zero-le l in grind (arith, common_steps, d, cut)
digits_alone false text part more (other, cut) digits k l = let d = digits k 0 zero-le l in grind (arith, common_steps, d, cut)
