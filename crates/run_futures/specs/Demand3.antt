-- Demand 3 (docs/MANUAL.md, "The keep sheet"): what any future needs is on the sheet, and what is on the sheet some
-- future needs. Assumes nothing.
use Rattle.std.specs.Prelude.{◌↔◌, ℕ}
use Rattle.run_futures.specs.Futures.{CheckpointNeeded, MessageNeeded}
use Rattle.keep_sheet.specs.Sheet.{Checkpoint, kept_checkpoints, kept_messages}
use Rattle.tables.specs.Lists.{Listed}
use Rattle.tables.specs.Table.{Table}

-- Checkpoint c of process i is listed just when some future needs it, and the message at position k just when some
-- future needs it.
pub record Demand3 (t : Table) : Type 0 where
  pub checkpoints : (i c : ℕ) → Listed {A = Checkpoint} (record { process = i; number = c }) (kept_checkpoints t)
      ↔ CheckpointNeeded t i c
  pub messages : (k : ℕ) → Listed k (kept_messages t) ↔ MessageNeeded t k
