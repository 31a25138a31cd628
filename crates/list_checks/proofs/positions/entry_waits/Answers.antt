-- `positions::entry_waits` meets its contract.
-- Assumes nothing.
use Rattle.std.proofs.Common.{arith}
use Rattle.std.proofs.lemmas.Grind.{common_steps}
use Rattle.list_checks.specs.Entries.{entry_waits}
use Rattle.tables.specs.Format.{checkpoint_at, process_at}
use Rattle.list_checks.proofs.positions.entry_waits.Goals as goal

pub returns-then-u16_at-process : goal.returns-then-u16_at-process
unfolding entry_waits process_at checkpoint_at
returns-then-u16_at-process c = grind (arith, common_steps)

pub returns-else-u16_at-process : goal.returns-else-u16_at-process
unfolding entry_waits process_at checkpoint_at
returns-else-u16_at-process c = grind (arith, common_steps)
