-- `line_of_set` meets its contract: the line under the ceiling of the set.
use mathlib.Core.Path.{ap, ◌∙◌}
use Rattle.consistency.specs.Lowering.{line_under}
use Rattle.lines.proofs.LineReads.{set_read}
use Rattle.lines.proofs.line_of_set.Goals as goal

pub returns : goal.returns
returns c = c.line_under.ensures ∙ ap (line_under _) c.ceiling_of_set.ensures ∙ set_read _ c.args.table.accepted _
