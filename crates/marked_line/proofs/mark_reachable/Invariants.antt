-- `mark_reachable` meets its contract. The invariant: what is marked is reachable (`Growing`); a pass that marks nothing ends it. The measure: unset bits.
use Rattle.marked_line.proofs.MarkPassLaws.{Growing}
use Rattle.marks.specs.Bits.{first_bit, unset}
use Rattle.tables.specs.Format.{decode}
use Rattle.tables.specs.Table.{process_count}
use Rattle.marked_line.proofs.mark_reachable.Given as goal

abbrev pub invariant-loop : goal.invariant-loop
invariant-loop l = Growing (decode l.layout.table.bytes.now) l.roots l.initial.marks l.marks

abbrev pub decreases-loop : goal.decreases-loop
decreases-loop l = unset l.marks (first_bit (decode l.layout.table.bytes.now).counts (process_count (decode l.layout.table.bytes.now)))
