-- The first i places have the smaller number, and the others are as they were.
use Rattle.std.proofs.Common.{get_or, min}
use Rattle.tables.specs.Arrays.{Filled}
use Rattle.member_lines.proofs.lower_to.Given as goal

abbrev pub invariant-loop-i : goal.invariant-loop-i
invariant-loop-i l = Filled (λ j. min (get_or l.numbers j 0) (get_or l.fn.line j 0)) l.i l.fn.line l.line
