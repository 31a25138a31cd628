-- `named_line` meets its contract: the line under the array is the array of the line.
-- Assumes nothing.
use mathlib.Core.Path.{◌∙◌}
use Rattle.named_checkpoints.proofs.NamedLaws.{line_put}
use Rattle.named_checkpoints.proofs.named_line.Goals as goal

pub returns : goal.returns
returns c = c.line_under.ensures ∙ line_put _ c.args.names.table.accepted _ _ c.named_ceiling.ensures
