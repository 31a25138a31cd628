-- `RunTable::count_array` meets its contract: each count that is read is the table's, and the array that it fills is that of the counts.
use Rattle.tables.proofs.ArrayLaws.{filling_array, filling_more, filling_none}
use Rattle.tables.proofs.ReadLaws.{count_read, counts_read}
use Rattle.tables.specs.Table.{count_of, process_count}
use Rattle.tables.proofs.parts.RunTable.count_array.Goals as goal

pub loop-p-init : goal.loop-p-init
loop-p-init c = record { read = counts_read c.args.self.accepted c.process_count-n.ensures c.counts-part.ensures; filling = filling_none }

pub loop-p-preserved : goal.loop-p-preserved
unfolding count_of
loop-p-preserved c =
    let read = c.loop-p.invariant.read in
    let taken = c.loop-p-test.true in
    record { read = read; filling = filling_more c.loop-p.invariant.filling taken (count_read read taken c.u16_at.ensures) }

pub returns : goal.returns
unfolding process_count
returns c = filling_array _ c.loop-p.invariant.filling c.loop-p-test.false c.loop-p.invariant.read.n_is
