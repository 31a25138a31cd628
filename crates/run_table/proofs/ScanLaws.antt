-- Numbers of counts and of entries, as the code read them, and what the checks say of them.
--     bad_is                                 a count, beside the limits of check 5
--     process_known                          a message's process, as the code read it
--     not_below_lem .. not_above                 its number beside the count of that process, both as they were read
-- Assumes nothing.
use mathlib.Core.Bool.{Bool, true, false}
use mathlib.Core.List.{List}
use mathlib.Core.Path.{◌≡◌, sym, ap, ◌∙◌}
use Prim.Native.Nat.{ℕ, ◌+◌, ◌*◌, ◌<◌, ◌≤◌}
use borrow.Author.Tests.{lt-ltb, le-leb, le-ltb, leb-false, lt-leb}
use Rattle.tables.specs.Checks.{bad_count, outside}
use Rattle.tables.specs.Format.{checkpoint_at, count_at, process_at}
use Rattle.tables.specs.Numbers.{u16_at}
use Rattle.run_table.specs.EntryChecks.{above_at, bad_count_at, not_below_at, unknown_at}
use Rattle.tables.specs.Table.{most_checkpoints}

-- ---- count p, as the loop of check 5 read it
pub bad_is : (counts : List ℕ) (p : ℕ) {r : ℕ} → r ≡ u16_at counts (2 * p) → {b : Bool}
    → outside most_checkpoints r ≡ b → bad_count_at counts p ≡ b
unfolding bad_count_at bad_count count_at
bad_is counts p read e = ap (outside most_checkpoints) (sym read) ∙ e

-- ---- an entry's process is below n, where it is known
pub process_known : (n : ℕ) (part : List ℕ) (k : ℕ) → unknown_at n part k ≡ false → u16_at part (4 * k) < n
unfolding unknown_at process_at
process_known n part k e = leb-false n (u16_at part (4 * k)) e

-- ---- an entry's number and the count of its process
module _ (counts part : List ℕ) (k : ℕ) {c s : ℕ} (count : c ≡ count_at counts (process_at part k)) (number : s ≡ u16_at part (4 * k + 2)) where
  number_is : s ≡ checkpoint_at part k
  unfolding checkpoint_at
  number_is = number

  pub not_below_lem : c ≤ s → not_below_at counts part k ≡ true
  unfolding not_below_at
  not_below_lem l = rw (← count, ← number_is) (le-leb c s l)

  pub below : s < c → not_below_at counts part k ≡ false
  unfolding not_below_at
  below l = rw (← count, ← number_is) (lt-leb c s l)

  pub above : c < s → above_at counts part k ≡ true
  unfolding above_at
  above l = rw (← count, ← number_is) (lt-ltb c s l)

  pub not_above : s ≤ c → above_at counts part k ≡ false
  unfolding above_at
  not_above l = rw (← count, ← number_is) (le-ltb c s l)
