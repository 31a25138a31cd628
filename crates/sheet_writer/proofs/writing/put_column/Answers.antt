-- The numbers of one process are put after those of the processes before it.
use Rattle.sheet_writer.proofs.PutLaws.{putting_all, row_more, row_room, rows_none}
use Rattle.sheet_writer.specs.SheetParts.{column_of}
use Rattle.tables.specs.Format.{count_at}
use Rattle.sheet_writer.proofs.writing.put_column.Goals as goal

pub loop-i-init : goal.loop-i-init
unfolding column_of
loop-i-init c = rows_none _ c.requires.counts_in_bounds

pub put_process-next-requires-clause-count_in_bounds : goal.put_process-next-requires-clause-count_in_bounds
unfolding count_at
put_process-next-requires-clause-count_in_bounds c = rw c.u16_at.ensures (row_room _ c.loop-i.invariant c.loop-i-test.true)

pub loop-i-preserved : goal.loop-i-preserved
unfolding count_at
loop-i-preserved c = row_more _ c.loop-i.invariant c.loop-i-test.true (rw c.u16_at.ensures at c.put_process-next.ensures)

pub returns : goal.returns
unfolding column_of
returns c = putting_all c.loop-i.invariant c.loop-i-test.false
