-- The invariant of `sweep`: the line was brought down from the start, cursors are places at messages, and no more processes have stopped
-- than messages were looked at.
use Rattle.sweep.proofs.SweepLaws.{Sweeps}
use Rattle.sweep.proofs.sweep.Given as goal

abbrev pub invariant-loop-k : goal.invariant-loop-k
invariant-loop-k l = Sweeps l.messages l.initial.line l.line l.cursors l.stopped l.k
