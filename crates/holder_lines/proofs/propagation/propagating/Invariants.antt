-- The invariant of `propagation::propagating`: a process is marked where it sent one of the first k messages that a rollback of it orphans.
use Rattle.holder_lines.proofs.PropagationLaws.{Seen}
use Rattle.holder_lines.proofs.propagation.propagating.Given as goal

abbrev pub invariant-loop-k : goal.invariant-loop-k
invariant-loop-k l = Seen l.messages l.counts l.propagates l.k
