-- The checks of the line under ceilings, and then 19.
use Rattle.call_checks.proofs.RefusalLaws.{catches, more_left, next, none_left, quiet_under}
use Rattle.call_checks.specs.CallChecks.{marked_line_checks}
use Rattle.refusals.proofs.ExitLaws.{front_exit}
use Rattle.refusals.proofs.marking_refusal.Goals as goal
use Rattle.std.proofs.Common.{ap, ltb, refl, sym, ◌∙◌}
use borrow.Author.Tests.{le-ltb, lt-ltb}

pub returns-in_err-table-clause-refusal : goal.returns-in_err-table-clause-refusal
unfolding marked_line_checks
returns-in_err-table-clause-refusal c =
    front_exit c.from_residual.result _ c.from_residual.ensures.1 _ _ c.in_err-table.ensures.refusal

pub returns-then-marks-marks_size-clause-refusal : goal.returns-then-marks-marks_size-clause-refusal
unfolding marked_line_checks
returns-then-marks-marks_size-clause-refusal c =
    catches (more_left (quiet_under _ _ c.in_ok-table.ensures.refusal refl) _) (rw c.in_ok-table.ensures.table at
    (ap (ltb _) (sym c.marks_size.ensures) ∙ lt-ltb _ _ c.if-marks-marks_size.true))

pub returns-clause-refusal : goal.returns-clause-refusal
unfolding marked_line_checks
returns-clause-refusal c =
    none_left (next (more_left (quiet_under _ _ c.in_ok-table.ensures.refusal refl) _)
    (rw c.in_ok-table.ensures.table at (ap (ltb _) (sym c.marks_size.ensures) ∙ le-ltb _ _ c.if-marks-marks_size.false)))
