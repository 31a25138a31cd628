-- The least checkpoint from the start on that one of the first k lines has at the process, and the count where none has.
use Rattle.holder_lines.specs.Held.{line_held}
use Rattle.tables.proofs.SelectLaws.{Searching}
use Rattle.sheet_entries.proofs.checkpoints.next_kept.Given as goal

abbrev pub invariant-loop-k : goal.invariant-loop-k
invariant-loop-k l = Searching l.lines.n (λ j. line_held l.lines j l.i) l.from l.count l.least l.k
