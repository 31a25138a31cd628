-- Its outcome, at each return.
use Rattle.call_checks.proofs.RefusalLaws.{quiet_receive}
use Rattle.calls.specs.Calls.{receipt_answer}
use Rattle.keeper.proofs.OutcomeLaws.{before_exit, fits, short_exit}
use Rattle.keeper.proofs.StepAnswers.{can_receive, receipt_judged}
use Rattle.keeper.proofs.answers.receive.Goals as goal
use Rattle.std.proofs.Common.{refl}

pub returns-in_err-table-clause-outcome : goal.returns-in_err-table-clause-outcome
unfolding receipt_answer
returns-in_err-table-clause-outcome c =
    before_exit c.from_residual.result _ c.from_residual.ensures.1 _ _ _ c.in_err-table.ensures.refusal

pub returns-in_err-size-clause-outcome : goal.returns-in_err-size-clause-outcome
unfolding receipt_answer
returns-in_err-size-clause-outcome c =
    let here = quiet_receive _ _ _ c.in_ok-table.ensures.refusal refl in
    short_exit c.from_residual-in_err-size.result _ c.from_residual-in_err-size.ensures.1 (receipt_judged _ _ here)
    (rw c.in_ok-table.ensures.table at c.same_size.ensures) c.in_err-size.ensures

pub invariant_of-receipt : goal.invariant_of-receipt
invariant_of-receipt c = record {
  can_receive = rw c.in_ok-table.ensures.table (can_receive _ _ (quiet_receive _ _ _ c.in_ok-table.ensures.refusal refl));
}

pub returns : goal.returns
unfolding receipt_answer
returns c =
    let here = quiet_receive _ _ _ c.in_ok-table.ensures.refusal refl in
    let all = fits (receipt_judged _ _ here) (rw c.in_ok-table.ensures.table at c.same_size.ensures) c.in_ok-size.ensures
    (rw c.in_ok-table.ensures.table at c.put_receipt.ensures) in
    record { outcome = all.0; table = all.1 }
