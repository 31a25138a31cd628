-- The array's numbers of the kept checkpoints below the next start are put, and there is room for all. The start rises.
use Rattle.std.proofs.Common.{◌-◌}
use Rattle.holder_lines.specs.Held.{line_held}
use Rattle.sheet_entries.specs.Kept.{shows}
use Rattle.sheet_writer.proofs.PutLaws.{PuttingNumbers, column_below}
use Rattle.sheet_writer.proofs.writing.put_process.Given as goal

abbrev pub invariant-loop-checkpoint : goal.invariant-loop-checkpoint
invariant-loop-checkpoint l =
    PuttingNumbers (column_below (shows l.lines.n (line_held l.lines) l.i) l.column l.i) l.count l.fn.buffer l.at l.buffer l.next l.from

abbrev pub decreases-loop-checkpoint : goal.decreases-loop-checkpoint
decreases-loop-checkpoint l = l.count - l.from
