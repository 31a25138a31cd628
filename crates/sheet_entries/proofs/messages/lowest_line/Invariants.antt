-- The first i entries are the lowest line's, and the others 0.
use Rattle.std.proofs.Common.{get_or}
use Rattle.holder_lines.specs.Held.{line_held}
use Rattle.sheet_entries.specs.Kept.{lowest_at}
use Rattle.tables.proofs.ArrayLaws.{Filling}
use Rattle.tables.specs.Lists.{tabulate}
use Rattle.sheet_entries.proofs.messages.lowest_line.Given as goal

abbrev pub invariant-loop-i : goal.invariant-loop-i
invariant-loop-i l = Filling (λ j. get_or (tabulate l.lines.n (lowest_at l.lines.n (line_held l.lines))) j 0) l.lines.n l.i l.lowest
