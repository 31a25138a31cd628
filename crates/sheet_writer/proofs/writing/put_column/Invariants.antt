-- The array's numbers of the first i processes are put, and there is room for all.
use Rattle.holder_lines.specs.Held.{line_held}
use Rattle.sheet_entries.specs.Kept.{kept_of}
use Rattle.sheet_writer.proofs.PutLaws.{PuttingNumbers}
use Rattle.sheet_writer.specs.SheetParts.{column_at}
use Rattle.tables.specs.Format.{count_at}
use Rattle.tables.specs.Lists.{rows}
use Rattle.sheet_writer.proofs.writing.put_column.Given as goal

abbrev pub invariant-loop-i : goal.invariant-loop-i
invariant-loop-i l =
    PuttingNumbers (rows (λ j. column_at l.column j (kept_of l.lines.n (line_held l.lines) j (count_at l.counts j)))) l.lines.n l.fn.buffer l.at l.buffer
    l.next l.i
