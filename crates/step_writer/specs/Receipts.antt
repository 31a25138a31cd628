-- Of the code: what a receipt or a checkpoint is given, and what is written from the parts of a table. Assumes nothing.
use Rattle.std.specs.Prelude.{false, List, [], ◌∷◌, ◌≡◌, ℕ, ◌+◌, ◌*◌, ◌<◌, set}
use Rattle.steps.specs.Steps.{after_receipt, bad_position}
use Rattle.tables.specs.Checks.{table_refusal}
use Rattle.tables.specs.Format.{decode}
use Rattle.tables.specs.Lists.{any}
use Rattle.tables.specs.Numbers.{put_at, u16_bytes}
use Rattle.tables.specs.Table.{Table, count_of, process_count, with_counts}

-- A known process of an accepted table, and a list of messages that wait for it.
pub record CanReceive (table : List ℕ) (process : ℕ) (list : List ℕ) : Type 0 where
  pub accepted : table_refusal table ≡ 0
  pub known : process < process_count (decode table)
  pub waiting : any (bad_position (decode table) process) list ≡ false

-- The table after a receipt, with the count of the process grown by so many checkpoints: none, or one.
unfoldable pub after_receiving : Table → ℕ → List ℕ → ℕ → Table
after_receiving t i list taken = with_counts (after_receipt t i list) (set t.counts i (count_of t i + taken))

-- A part of receipts in which a new receipt number is put into each listed entry, one after another.
unfoldable pub receipts_set : List ℕ → List ℕ → ℕ → List ℕ
receipts_set receipts [] number = receipts
receipts_set receipts (k ∷ rest) number = receipts_set (put_at receipts (4 * k + 2) (u16_bytes number)) rest number
