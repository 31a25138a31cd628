-- The loop of `checkpoint_total`: the total is that of the counts below p (`Summed`).
use Rattle.listing_text.proofs.RowLaws.{Summed}
use Rattle.listing_text.proofs.checkpoint_total.Given as goal
use Rattle.tables.specs.Format.{decode}

abbrev pub invariant-loop-p : goal.invariant-loop-p
invariant-loop-p l = Summed (decode l.table.bytes.now) l.total l.p
