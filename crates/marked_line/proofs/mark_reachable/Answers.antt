-- `mark_reachable` meets its contract: what is marked is reachable, and the last pass marked nothing.
use Rattle.marked_line.proofs.MarkPassLaws.{passes_end}
use Rattle.tables.proofs.AcceptLaws.{facts}
use Rattle.marked_line.proofs.mark_reachable.Goals as goal

pub returns : goal.returns
returns c = passes_end c.loop.invariant c.pass.ensures (facts _ c.args.layout.now.table.accepted).well_formed c.loop-test.false
