-- `HeldLines::number` meets its contract: the place is that of line k at process i.
use Rattle.std.proofs.Common.{rules}
use Rattle.holder_lines.specs.Scratch.{lines_in}
use Rattle.holder_lines.proofs.scratch.HeldLines.number.Goals as goal

pub returns : goal.returns
unfolding lines_in
returns c = search rules
