-- Each checkpoint found is one more, and none is kept behind the last.
use Rattle.std.proofs.Common.{arith}
use Rattle.sheet_entries.proofs.SearchLaws.{tallied_last, tallied_next}
use Rattle.sheet_entries.specs.Kept.{kept_of}
use Rattle.tables.proofs.SelectLaws.{tallied_none, tallied_small}
use Rattle.sheet_entries.proofs.checkpoints.count_kept_of.Goals as goal

pub loop-checkpoint-init : goal.loop-checkpoint-init
loop-checkpoint-init c = tallied_none

pub overflow_add-kept : goal.overflow_add-kept
overflow_add-kept c = omega (arith, tallied_small c.loop-checkpoint.invariant)

pub loop-checkpoint-preserved : goal.loop-checkpoint-preserved
loop-checkpoint-preserved c = let found = c.in-Some.ensures in tallied_next c.loop-checkpoint.invariant found.0 found.1

pub returns : goal.returns
unfolding kept_of
returns c = tallied_last c.loop-checkpoint.invariant c.in_default.ensures
