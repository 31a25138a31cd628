-- `last_roots` meets its contract. The invariant: roots and marks are a stage of the procedure that began at the ceilings (`Running`). The measure is the
-- sum of the roots, since a round with a marked root brings one down.
use lib.ListN.{take}
use Rattle.marked_line.specs.Marking.{Running}
use Rattle.tables.specs.Format.{decode}
use Rattle.tables.specs.Lists.{sum}
use Rattle.tables.specs.Table.{process_count}
use Rattle.marked_line.proofs.last_roots.Given as goal

abbrev pub invariant-loop-roots : goal.invariant-loop-roots
invariant-loop-roots l = Running (decode l.layout.table.bytes.now) l.ceilings l.roots l.initial.marks l.marks

abbrev pub decreases-loop-roots : goal.decreases-loop-roots
decreases-loop-roots l = sum (take (process_count (decode l.layout.table.bytes.now)) l.roots)
