-- `put_line_of_set` meets its contract: the first N numbers of the array are the line.
use Rattle.lines.proofs.LineReads.{set_front}
use Rattle.lines.proofs.put_line_of_set.Goals as goal

pub returns : goal.returns
returns c = rw (set_front _ c.args.table.accepted _ _ c.line_of_set.ensures) at c.put_line.ensures
