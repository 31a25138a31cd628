-- Its outcome, at each return.
use Rattle.call_checks.proofs.RefusalLaws.{quiet_table}
use Rattle.calls.proofs.LineAnswers.{line_judged}
use Rattle.calls.specs.Calls.{line_answer, recovery_line_answer}
use Rattle.consistency.proofs.CeilingLaws.{set_ceiling}
use Rattle.consistency.specs.Ceilings.{line_of, recovery_line}
use Rattle.keeper.proofs.OutcomeLaws.{before_exit, fits, short_exit}
use Rattle.keeper.proofs.answers.recovery_line.Goals as goal
use Rattle.lines.proofs.LineReads.{all_hold_lem}
use Rattle.process_set.specs.Sets.{all_processes}
use Rattle.std.proofs.Common.{refl}
use Rattle.tables.specs.Checks.{table_refusal}

pub returns-in_err-table-clause-outcome : goal.returns-in_err-table-clause-outcome
unfolding recovery_line_answer line_answer table_refusal recovery_line line_of all_processes
returns-in_err-table-clause-outcome c =
    before_exit c.from_residual.result _ c.from_residual.ensures.1 _ _ _ c.in_err-table.ensures.refusal

pub returns-in_err-size-clause-outcome : goal.returns-in_err-size-clause-outcome
unfolding recovery_line_answer line_answer table_refusal recovery_line line_of all_processes
returns-in_err-size-clause-outcome c =
    let here = quiet_table _ c.in_ok-table.ensures.refusal refl in
    short_exit c.from_residual-in_err-size.result _ c.from_residual-in_err-size.ensures.1 (line_judged here (set_ceiling _ _))
    (rw c.in_ok-table.ensures.table at c.line_size.ensures) c.in_err-size.ensures

pub returns : goal.returns
unfolding recovery_line_answer line_answer table_refusal recovery_line line_of all_processes
returns c =
    let here = quiet_table _ c.in_ok-table.ensures.refusal refl in
    let all = fits (line_judged here (set_ceiling _ _)) (rw c.in_ok-table.ensures.table at c.line_size.ensures) c.in_ok-size.ensures
    (rw (c.in_ok-table.ensures.table, all_hold_lem _ here.accepted) at c.put_line_of_set.ensures) in
    record { outcome = all.0; latest = all.1 }
