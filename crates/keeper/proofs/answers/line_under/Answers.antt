-- Its outcome, at each return.
use Rattle.call_checks.proofs.RefusalLaws.{quiet_under}
use Rattle.calls.proofs.LineAnswers.{ceilings_accepted, line_judged}
use Rattle.calls.specs.Calls.{line_answer, line_under_answer}
use Rattle.keeper.proofs.OutcomeLaws.{before_exit, fits, short_exit}
use Rattle.keeper.proofs.answers.line_under.Goals as goal
use Rattle.std.proofs.Common.{refl}

pub returns-in_err-table-clause-outcome : goal.returns-in_err-table-clause-outcome
unfolding line_under_answer line_answer
returns-in_err-table-clause-outcome c =
    before_exit c.from_residual.result _ c.from_residual.ensures.1 _ _ _ c.in_err-table.ensures.refusal

pub returns-in_err-size-clause-outcome : goal.returns-in_err-size-clause-outcome
unfolding line_under_answer line_answer
returns-in_err-size-clause-outcome c =
    let here = quiet_under _ _ c.in_ok-table.ensures.refusal refl in
    short_exit c.from_residual-in_err-size.result _ c.from_residual-in_err-size.ensures.1 (line_judged here (ceilings_accepted here))
    (rw c.in_ok-table.ensures.table at c.line_size.ensures) c.in_err-size.ensures

pub put_line_under-requires-clause-ceilings_len : goal.put_line_under-requires-clause-ceilings_len
put_line_under-requires-clause-ceilings_len c =
    rw c.in_ok-table.ensures.table (ceilings_accepted (quiet_under _ _ c.in_ok-table.ensures.refusal refl)).for_each

pub returns : goal.returns
unfolding line_under_answer line_answer
returns c =
    let here = quiet_under _ _ c.in_ok-table.ensures.refusal refl in
    let all = fits (line_judged here (ceilings_accepted here)) (rw c.in_ok-table.ensures.table at c.line_size.ensures) c.in_ok-size.ensures
    (rw c.in_ok-table.ensures.table at c.put_line_under.ensures) in
    record { outcome = all.0; latest = all.1 }
