-- `Rollback::counts_left` meets its contract. The loop's invariant: the first p counts are those that are left, and the others are 0.
-- Assumes nothing.
use Prim.Native.Nat.{◌≤◌}
use lib.ListN.{get_or}
use Rattle.steps.specs.Steps.{after_rollback}
use Rattle.tables.proofs.ArrayLaws.{Filling}
use Rattle.tables.specs.Format.{decode}
use Rattle.tables.specs.Table.{most_processes}
use Rattle.rollback.proofs.Rollback.counts_left.Given as goal

abbrev pub invariant-loop-p : goal.invariant-loop-p
invariant-loop-p l = (l.n ≤ most_processes) × Filling (λ q. get_or (after_rollback (decode l.self.table.bytes.now)).counts q 0) l.n l.p l.counts
