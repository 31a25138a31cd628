-- `put_line` meets its contract: the first N numbers of the line, one after another.
use mathlib.Core.Path.{sym}
use native.Mathlib.Omega.{arith}
use lib.Seq.{length-take-le}
use Rattle.tables.proofs.ReadLaws.{processes_few}
use Rattle.lines.proofs.put_line.Goals as goal

pub slice_bounds-line-end : goal.slice_bounds-line-end
slice_bounds-line-end c = omega (arith, processes_few _ c.args.table.accepted)

pub slice_bounds-put_numbers-end : goal.slice_bounds-put_numbers-end
slice_bounds-put_numbers-end c = sym (length-take-le _ _ (omega (arith, processes_few _ c.args.table.accepted)))
