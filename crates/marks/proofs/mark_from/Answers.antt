-- `mark_from` meets its contract: the loop stops at the end or at a bit that is set.
use mathlib.Core.Path.{sym, ◌∙◌}
use Rattle.marks.proofs.BitLaws.{row_more, row_stops}
use Rattle.marks.proofs.mark_from.Goals as goal

pub returns-then-is_marked : goal.returns-then-is_marked
returns-then-is_marked c = row_stops c.loop-b.invariant c.loop-b-test.true (sym c.is_marked.ensures ∙ c.if-is_marked.true)

pub loop-b-preserved : goal.loop-b-preserved
loop-b-preserved c = row_more c.loop-b.invariant c.loop-b-test.true c.set_bit.ensures
