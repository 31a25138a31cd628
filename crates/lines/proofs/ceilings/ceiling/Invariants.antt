-- The invariant of `ceilings::ceiling`: the first p entries are the heights, and the others 0.
use Rattle.lines.specs.Arrays.{height_at}
use Rattle.tables.proofs.ArrayLaws.{Filling}
use Rattle.lines.proofs.ceilings.ceiling.Given as goal

abbrev pub invariant-loop-p : goal.invariant-loop-p
invariant-loop-p l = Filling (height_at l.n l.set l.counts) l.n l.p l.line
