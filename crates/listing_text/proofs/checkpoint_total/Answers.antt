-- N is small, so that the total does not overflow.
use Rattle.listing_text.proofs.RowLaws.{summed_all, summed_more, summed_none}
use Rattle.listing_text.proofs.checkpoint_total.Goals as goal
use Rattle.std.proofs.Common.{arith}
use Rattle.tables.proofs.ReadLaws.{processes_few}

pub loop-p-init : goal.loop-p-init
loop-p-init c = summed_none _

pub overflow_add-total : goal.overflow_add-total
overflow_add-total c = omega (arith, c.loop-p.invariant, processes_few _ c.args.table.accepted)

pub loop-p-preserved : goal.loop-p-preserved
loop-p-preserved c = summed_more _ _ _ c.loop-p.invariant (omega arith) _ c.count.ensures (omega arith)

pub returns : goal.returns
returns c = summed_all _ _ _ c.loop-p.invariant (omega arith)
