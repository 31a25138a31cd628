-- Its outcome, at each return.
use Rattle.call_checks.proofs.RefusalLaws.{quiet_send}
use Rattle.calls.specs.Calls.{send_answer}
use Rattle.keeper.proofs.OutcomeLaws.{before_exit, fits, short_exit}
use Rattle.keeper.proofs.StepAnswers.{send_judged, sender_known}
use Rattle.keeper.proofs.answers.send.Goals as goal
use Rattle.std.proofs.Common.{refl}

pub returns-in_err-table-clause-outcome : goal.returns-in_err-table-clause-outcome
unfolding send_answer
returns-in_err-table-clause-outcome c =
    before_exit c.from_residual.result _ c.from_residual.ensures.1 _ _ _ c.in_err-table.ensures.refusal

pub returns-in_err-size-clause-outcome : goal.returns-in_err-size-clause-outcome
unfolding send_answer
returns-in_err-size-clause-outcome c =
    let here = quiet_send _ _ _ c.in_ok-table.ensures.refusal refl in
    short_exit c.from_residual-in_err-size.result _ c.from_residual-in_err-size.ensures.1 (send_judged _ _ here)
    (rw c.in_ok-table.ensures.table at c.send_size.ensures) c.in_err-size.ensures

pub put_send-requires-clause-from_bound : goal.put_send-requires-clause-from_bound
put_send-requires-clause-from_bound c =
    rw c.in_ok-table.ensures.table (sender_known _ _ (quiet_send _ _ _ c.in_ok-table.ensures.refusal refl))

pub returns : goal.returns
unfolding send_answer
returns c =
    let here = quiet_send _ _ _ c.in_ok-table.ensures.refusal refl in
    let all = fits (send_judged _ _ here) (rw c.in_ok-table.ensures.table at c.send_size.ensures) c.in_ok-size.ensures
    (rw c.in_ok-table.ensures.table at c.put_send.ensures) in
    record { outcome = all.0; table = all.1 }
