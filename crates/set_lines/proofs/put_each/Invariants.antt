-- The lines of the sets so far stand at the front of the buffer, the rest of it is as it was, and the next line's place follows.
use Rattle.set_lines.proofs.EachLaws.{PutsLines}
use Rattle.set_lines.proofs.put_each.Given as goal

abbrev pub invariant-loop-set : goal.invariant-loop-set
invariant-loop-set l = PutsLines l.holders.table.bytes.now l.sets l.lines.numbers.now l.fn.answer l.lines.n l.counts l.answer l.at l.set-index
