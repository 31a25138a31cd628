-- The rows of a listing, as the code reads them off a scratch and a sheet.
--     checkpoint_read        the row that comes next
--     line_in                a line inside the scratch
--     Summed, summed-..      the loop over the counts
-- Assumes nothing.
use mathlib.Core.List.{List}
use mathlib.Core.Path.{◌≡◌, refl, ap, ap₂, ◌∙◌}
use Prim.Native.Nat.{ℕ, ◌+◌, ◌*◌, ◌-◌, ◌≤◌, ◌<◌}
use native.Mathlib.Nat.{le_antisymm}
use native.Mathlib.Numerals.{add-one}
use native.Mathlib.Omega.{arith}
use Rattle.listings.specs.Listing.{checkpoint_row}
use Rattle.listing_text.specs.Rows.{checkpoint_at}
use Rattle.holder_lines.proofs.ScratchLaws.{cell_below}
use Rattle.tables.proofs.ListLaws.{sum_more, tabulate-get_or}
use Rattle.tables.specs.Lists.{sum, tabulate}
use Rattle.tables.specs.Numbers.{u16_at}
use Rattle.tables.specs.Table.{Table, checkpoint_total, count_of, process_count}

pub checkpoint_read : (sheet : List ℕ) (k e : ℕ) {process number : ℕ} → process ≡ u16_at sheet (4 + 2 * e)
    → number ≡ u16_at sheet (4 + 2 * k + 2 * e)
    → checkpoint_row (record { process = process; number = number }) ≡ checkpoint_row (checkpoint_at sheet k e)
unfolding checkpoint_at
checkpoint_read sheet k e p s = ap₂ (λ (a b : ℕ). checkpoint_row (record { process = a; number = b })) p s

-- line k of n ends within n lines
pub line_in : (n k : ℕ) → k < n → n * k + n ≤ n * n
line_in n k l = omega (arith, cell_below {i = n - 1} l (omega arith))

-- ---- the loop over the counts
pub record Summed (t : Table) (total p : ℕ) : Type 0 where
  pub within : p ≤ process_count t
  pub small : total ≤ 65536 * p
  pub number : total ≡ sum (tabulate p (count_of t))

module _ (t : Table) where
  pub summed_none : Summed t 0 0
  unfolding sum tabulate
  summed_none = record { within = omega arith; small = omega arith; number = refl }

  module _ (total p : ℕ) (h : Summed t total p) where
    pub summed_more : p < process_count t → (count : ℕ) → count ≡ count_of t p → count < 65536 → Summed t (total + count) (p + 1)
    summed_more l count is fits = record {
      within = omega arith;
      small = omega (arith, h.small);
      number = omega (arith, h.number, ap (λ (n : ℕ). sum (tabulate n (count_of t))) (add-one p), sum_more p (count_of t));
    }

    pub summed_all : process_count t ≤ p → total ≡ checkpoint_total t
    unfolding process_count count_of checkpoint_total
    summed_all l =
        h.number ∙ ap (λ (n : ℕ). sum (tabulate n (count_of t))) (le_antisymm h.within l) ∙ ap sum (tabulate-get_or t.counts 0)
