-- `Rollback::put_messages` meets its contract. The loop's invariant: the entries of what remains of the first k messages stand in the buffer, sends
-- and receipts each from their own start, and `place` is behind these sends.
-- Assumes nothing.
use Rattle.rollback.proofs.RollbackLaws.{Gathering}
use Rattle.rollback.proofs.Rollback.put_messages.Given as goal

abbrev pub invariant-loop-k : goal.invariant-loop-k
invariant-loop-k l = Gathering l.self.table.bytes.now l.self.line l.m l.at l.initial.buffer l.k-end l.sends l.receipts l.k l.place
    l.buffer
