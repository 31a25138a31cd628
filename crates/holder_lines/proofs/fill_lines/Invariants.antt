-- The invariant of `fill_lines`: the first k lines stand at the front of the scratch, and the rest of it is as it was.
use Rattle.holder_lines.proofs.FillLaws.{Lining}
use Rattle.holder_lines.proofs.fill_lines.Given as goal

abbrev pub invariant-loop-k : goal.invariant-loop-k
invariant-loop-k l = Lining l.table.bytes.now l.initial.scratch l.n l.propagates l.scratch l.k
