-- Its outcome, at each return.
use Rattle.call_checks.proofs.RefusalLaws.{quiet_set}
use Rattle.calls.proofs.LineAnswers.{line_judged}
use Rattle.calls.specs.Calls.{line_answer, line_of_set_answer}
use Rattle.consistency.proofs.CeilingLaws.{set_ceiling}
use Rattle.consistency.specs.Ceilings.{line_of}
use Rattle.keeper.proofs.OutcomeLaws.{before_exit, fits, short_exit}
use Rattle.keeper.proofs.answers.line_of_set.Goals as goal
use Rattle.std.proofs.Common.{refl}

pub returns-in_err-table-clause-outcome : goal.returns-in_err-table-clause-outcome
unfolding line_of_set_answer line_answer line_of
returns-in_err-table-clause-outcome c =
    before_exit c.from_residual.result _ c.from_residual.ensures.1 _ _ _ c.in_err-table.ensures.refusal

pub returns-in_err-size-clause-outcome : goal.returns-in_err-size-clause-outcome
unfolding line_of_set_answer line_answer line_of
returns-in_err-size-clause-outcome c =
    let here = quiet_set _ _ c.in_ok-table.ensures.refusal refl in
    short_exit c.from_residual-in_err-size.result _ c.from_residual-in_err-size.ensures.1 (line_judged here (set_ceiling _ _))
    (rw c.in_ok-table.ensures.table at c.line_size.ensures) c.in_err-size.ensures

pub returns : goal.returns
unfolding line_of_set_answer line_answer line_of
returns c =
    let here = quiet_set _ _ c.in_ok-table.ensures.refusal refl in
    let all = fits (line_judged here (set_ceiling _ _)) (rw c.in_ok-table.ensures.table at c.line_size.ensures) c.in_ok-size.ensures
    (rw c.in_ok-table.ensures.table at c.put_line_of_set.ensures) in
    record { outcome = all.0; latest = all.1 }
