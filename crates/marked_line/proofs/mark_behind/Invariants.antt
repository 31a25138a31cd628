-- `mark_behind` meets its contract. The invariant: the states behind the roots below p are marked, no others (`Behind`).
use Rattle.marked_line.proofs.RootLaws.{Behind}
use Rattle.tables.specs.Format.{decode}
use Rattle.marked_line.proofs.mark_behind.Given as goal

abbrev pub invariant-loop-p : goal.invariant-loop-p
invariant-loop-p l = Behind (decode l.layout.table.bytes.now) l.roots l.initial.marks l.marks l.n l.p
