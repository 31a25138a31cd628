-- The invariant of the chase: its line was brought down from the start, cursors are places at messages, processes stand on the stack, and
-- it has room for the others. The measure is the sum of the line and the height of the stack: a process leaves it, and none is put there but
-- the line falls. The invariant of a process that goes back: the same from its line then, with that measure no higher, and it stands at a
-- message of its own. The measure is how many messages it has left.
use Prim.Native.Nat.{◌+◌}
use Rattle.chase.proofs.BackLaws.{Chases, GoesBack, left}
use Rattle.tables.specs.Lists.{sum}
use Rattle.chase.proofs.chase.Given as goal

abbrev pub invariant-back : goal.invariant-back
invariant-back l = GoesBack l.messages l.initial.line l.initial.height l.cursors l.p l.line l.stack l.stacked l.height l.next

abbrev pub decreases-back : goal.decreases-back
decreases-back l = left l.next

abbrev pub invariant-chase : goal.invariant-chase
invariant-chase l = Chases l.messages l.fn.start l.cursors l.line l.stack l.stacked l.height

abbrev pub decreases-chase : goal.decreases-chase
decreases-chase l = sum l.line + l.height
