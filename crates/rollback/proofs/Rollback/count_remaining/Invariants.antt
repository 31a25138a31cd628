-- `Rollback::count_remaining` meets its contract. The loop's invariant: as many are counted as remain of the first k messages.
-- Assumes nothing.
use Rattle.rollback.proofs.RollbackLaws.{RemainingCounted}
use Rattle.rollback.proofs.Rollback.count_remaining.Given as goal

abbrev pub invariant-loop-k : goal.invariant-loop-k
invariant-loop-k l = RemainingCounted l.self.table.bytes.now l.self.line l.messages.count l.messages.sends.now l.remaining l.k
