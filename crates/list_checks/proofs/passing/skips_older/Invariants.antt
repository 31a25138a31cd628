-- `passing::skips_older` meets its contract. The walk's invariant: the positions so far have no older entry that is skipped (`GoneOver`). That of
-- the loop up to the next position: the senders of skipped entries are marked (`SendersMarked`).
-- Assumes nothing.
use Rattle.list_checks.proofs.PassingLaws.{GoneOver, SendersMarked}
use Rattle.list_checks.proofs.passing.skips_older.Given as goal

abbrev pub invariant-loop-position : goal.invariant-loop-position
invariant-loop-position l = GoneOver l.sends l.receipts l.process l.list l.skipped l.position-index l.next

abbrev pub invariant-loop-k : goal.invariant-loop-k
invariant-loop-k l = SendersMarked l.sends l.receipts l.process l.list l.skipped l.k
