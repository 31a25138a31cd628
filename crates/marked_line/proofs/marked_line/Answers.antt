-- `marked_line` meets its contract: the last roots of the procedure, and then the marks are cleared.
use mathlib.Core.Path.{sym}
use Rattle.marked_line.proofs.StageLaws.{end_cleared}
use Rattle.marked_line.proofs.marked_line.Goals as goal

pub returns : goal.returns
returns c =
    rw (sym c.of-layout.ensures) record {
      ends_with = c.last_roots-roots.ensures.ends_with;
      marks_after = end_cleared c.last_roots-roots.ensures.kept c.size-size.ensures c.clear.ensures;
    }
