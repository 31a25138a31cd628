-- The checks of a receipt, and then 14.
use Rattle.call_checks.proofs.RefusalLaws.{catches, more_left, next, none_left, quiet_receive}
use Rattle.call_checks.specs.CallChecks.{checkpoint_call_checks}
use Rattle.refusals.proofs.ExitLaws.{front_exit}
use Rattle.refusals.proofs.checkpoint_refusal.Goals as goal
use Rattle.std.proofs.Common.{refl}

pub returns-in_err-table-clause-refusal : goal.returns-in_err-table-clause-refusal
unfolding checkpoint_call_checks
returns-in_err-table-clause-refusal c =
    front_exit c.from_residual.result _ c.from_residual.ensures.1 _ _ c.in_err-table.ensures.refusal

pub returns-then-full_of_checkpoints-clause-refusal : goal.returns-then-full_of_checkpoints-clause-refusal
unfolding checkpoint_call_checks
returns-then-full_of_checkpoints-clause-refusal c =
    catches (more_left (quiet_receive _ _ _ c.in_ok-table.ensures.refusal refl) _) (cc c.in_ok-table.ensures.table)

pub returns-clause-refusal : goal.returns-clause-refusal
unfolding checkpoint_call_checks
returns-clause-refusal c =
    none_left (next (more_left (quiet_receive _ _ _ c.in_ok-table.ensures.refusal refl) _) (cc c.in_ok-table.ensures.table))
