-- The number of each checkpoint found is put, and none is kept behind the last.
use Rattle.sheet_entries.specs.Kept.{kept_of}
use Rattle.sheet_writer.proofs.PutLaws.{laying_all, laying_more, laying_none, laying_room}
use Rattle.sheet_writer.proofs.writing.put_process.Goals as goal

pub loop-checkpoint-init : goal.loop-checkpoint-init
unfolding kept_of
loop-checkpoint-init c = laying_none _ _ _ c.requires.count_in_bounds

pub put_number-next-requires : goal.put_number-next-requires
put_number-next-requires c = laying_room _ _ _ c.loop-checkpoint.invariant c.in-Some.ensures.0 c.in-Some.ensures.1

pub loop-checkpoint-preserved : goal.loop-checkpoint-preserved
loop-checkpoint-preserved c =
    laying_more _ _ _ c.loop-checkpoint.invariant c.in-Some.ensures.0 c.in-Some.ensures.1 c.number_of.ensures c.put_number-next.ensures

pub returns : goal.returns
unfolding kept_of
returns c = laying_all _ _ _ c.loop-checkpoint.invariant c.in_default.ensures
