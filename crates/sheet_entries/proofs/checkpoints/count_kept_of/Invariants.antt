-- The kept checkpoints below the next start are counted. The start rises.
use Rattle.std.proofs.Common.{◌-◌}
use Rattle.holder_lines.specs.Held.{line_held}
use Rattle.sheet_entries.specs.Kept.{shows}
use Rattle.tables.proofs.SelectLaws.{Tallied}
use Rattle.sheet_entries.proofs.checkpoints.count_kept_of.Given as goal

abbrev pub invariant-loop-checkpoint : goal.invariant-loop-checkpoint
invariant-loop-checkpoint l = Tallied (shows l.lines.n (line_held l.lines) l.i) l.count l.kept l.from

abbrev pub decreases-loop-checkpoint : goal.decreases-loop-checkpoint
decreases-loop-checkpoint l = l.count - l.from
