-- How long the sheet is: at most N checkpoints of each process, since there are N lines.
--     sheet-length            its bytes, from K and Q
--     checkpoints_few         K is at most N × N
--     checkpoints-within      no more checkpoints are kept than there are
--     kept_few                K and Q of an accepted table
-- Assumes nothing.
use mathlib.Core.Bool.{Bool}
use mathlib.Core.List.{List, map}
use mathlib.Core.Path.{◌≡◌, ap}
use Prim.Native.Nat.{ℕ, ◌+◌, ◌*◌, ◌≤◌}
use native.Mathlib.Nat.{mul-le-mul}
use native.Mathlib.Omega.{arith}
use borrow.Author.Tests.{lt-ltb}
use lib.Dec.{eqb}
use lib.ListN.{length, length-append, length-map}
use Rattle.consistency.specs.Ceilings.{holder_line}
use Rattle.consistency.specs.Lines.{as_line}
use Rattle.keep_sheet.specs.Sheet.{Checkpoint, keeps_checkpoint, keeps_message, kept_checkpoints, kept_messages, sheet}
use Rattle.tables.proofs.ListLaws.{rows-sum, select_ext, select_small, sum_same, tabulate-get_or}
use Rattle.tables.proofs.NumberLaws.{length-u16s}
use Rattle.tables.proofs.ReadLaws.{messages_few, processes_few}
use Rattle.tables.proofs.SelectLaws.{select_few}
use Rattle.tables.specs.Checks.{table_refusal}
use Rattle.tables.specs.Format.{decode}
use Rattle.tables.specs.Lists.{any_below, select, sum, tabulate}
use Rattle.tables.specs.Table.{Table, checkpoint_total, count_of, message_count, message_of, most_messages, process_count}

module _ (t : Table) where
  pub sheet-length : length (sheet t) ≡ 4 + 4 * length (kept_checkpoints t) + 2 * length (kept_messages t)
  unfolding sheet
  sheet-length = simp (length-u16s, length-append, length-map) (omega arith)

  kept_at_few : (i : ℕ) → length (select (keeps_checkpoint t i) (count_of t i)) ≤ process_count t
  unfolding keeps_checkpoint
  kept_at_few i =
      let shown : ℕ → Bool = λ c. any_below (process_count t) (λ k. eqb (as_line (holder_line t k) i) c) in
      let all = select_ext (keeps_checkpoint t i) shown (count_of t i) (λ c b. rw (lt-ltb c (count_of t i) b)) in
      omega (arith, ap length all, select_few (λ k. as_line (holder_line t k) i) (process_count t) (count_of t i))

  abbrev checkpoint_at : ℕ → ℕ → Checkpoint
  checkpoint_at i c = record { process = i; number = c }

  -- so many of each process at most
  checkpoints_most : (most : ℕ → ℕ) → ((i : ℕ) → length (select (keeps_checkpoint t i) (count_of t i)) ≤ most i)
      → length (kept_checkpoints t) ≤ sum (tabulate (process_count t) most)
  unfolding kept_checkpoints
  checkpoints_most most few =
      rows-sum (λ i. map (checkpoint_at i) (select (keeps_checkpoint t i) (count_of t i))) most (process_count t)
      (λ i l. omega (arith, length-map (select (keeps_checkpoint t i) (count_of t i)) (checkpoint_at i), few i))

  checkpoints_few : length (kept_checkpoints t) ≤ process_count t * process_count t
  checkpoints_few = omega (arith, checkpoints_most (λ i. process_count t) kept_at_few, sum_same (process_count t) (process_count t))

  pub checkpoints-within : length (kept_checkpoints t) ≤ checkpoint_total t
  unfolding checkpoint_total process_count count_of
  checkpoints-within =
      omega (arith, checkpoints_most (count_of t) (λ i. select_small (keeps_checkpoint t i) (count_of t i)), ap sum (tabulate-get_or t.counts 0))

-- at most N × N checkpoints, and M messages
pub kept_few : (bytes : List ℕ) → table_refusal bytes ≡ 0
    → (length (kept_checkpoints (decode bytes)) ≤ 1024) × (length (kept_messages (decode bytes)) ≤ most_messages)
unfolding kept_messages
kept_few bytes accepted =
    let t = decode bytes in
    let few = processes_few bytes accepted in (
      omega (arith, checkpoints_few t, mul-le-mul few few),
      omega (arith, messages_few bytes accepted, select_small (λ k. keeps_message t (message_of t k)) (message_count t)),
    )
