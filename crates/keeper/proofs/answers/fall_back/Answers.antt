-- Its outcome, at each return.
use Rattle.call_checks.proofs.RefusalLaws.{quiet_table}
use Rattle.calls.specs.Calls.{rollback_answer}
use Rattle.keeper.proofs.OutcomeLaws.{before_exit, fits, short_exit}
use Rattle.keeper.proofs.StepAnswers.{rollback_judged}
use Rattle.keeper.proofs.answers.fall_back.Goals as goal
use Rattle.std.proofs.Common.{arith, refl}
use Rattle.steps.proofs.StepLaws.{rollback_fewer}
use Rattle.tables.proofs.ReadLaws.{messages_few}
use Rattle.tables.specs.Checks.{table_refusal}
use Rattle.tables.specs.Format.{decode}

pub returns-in_err-table-clause-outcome : goal.returns-in_err-table-clause-outcome
unfolding rollback_answer table_refusal
returns-in_err-table-clause-outcome c =
    before_exit c.from_residual.result _ c.from_residual.ensures.1 _ _ _ c.in_err-table.ensures.refusal

pub returns-in_err-size-clause-outcome : goal.returns-in_err-size-clause-outcome
unfolding rollback_answer table_refusal
returns-in_err-size-clause-outcome c =
    let here = quiet_table _ c.in_ok-table.ensures.refusal refl in
    short_exit c.from_residual-in_err-size.result _ c.from_residual-in_err-size.ensures.1
    (rollback_judged here (rw c.in_ok-table.ensures.table at c.count_remaining-m.ensures)) (rw c.in_ok-table.ensures.table at c.rollback_size.ensures)
    c.in_err-size.ensures

pub rollback_size-requires : goal.rollback_size-requires
rollback_size-requires c =
    omega (arith, c.count_remaining-m.ensures, messages_few _ c.in_ok-table.table.accepted, rollback_fewer (decode c.in_ok-table.table.bytes.now))

pub returns : goal.returns
unfolding rollback_answer table_refusal
returns c =
    let here = quiet_table _ c.in_ok-table.ensures.refusal refl in
    let all = fits (rollback_judged here (rw c.in_ok-table.ensures.table at c.count_remaining-m.ensures))
    (rw c.in_ok-table.ensures.table at c.rollback_size.ensures) c.in_ok-size.ensures (rw c.in_ok-table.ensures.table at c.put.ensures) in
    record { outcome = all.0; table = all.1 }
