-- `mark_from` meets its contract. The invariant: the bits from the first up to b are set and the others as they were (`Rowing`); the loop stops at the end
-- or at a bit that is set.
use Rattle.marks.proofs.BitLaws.{Rowing}
use Rattle.marks.proofs.mark_from.Given as goal

abbrev pub invariant-loop-b : goal.invariant-loop-b
invariant-loop-b l = Rowing l.from l.end l.initial.marks l.marks l.b
