-- The checks, one after another.
use Rattle.call_checks.proofs.RefusalLaws.{catches, next, none_left, own_left}
use Rattle.call_checks.specs.CallChecks.{line_of_set_checks}
use Rattle.refusals.proofs.ExitLaws.{table_exit}
use Rattle.refusals.proofs.set_refusal.Goals as goal
use Rattle.std.proofs.Common.{sym}

pub returns-in_err-table-clause-refusal : goal.returns-in_err-table-clause-refusal
unfolding line_of_set_checks
returns-in_err-table-clause-refusal c =
    table_exit c.from_residual.result _ c.from_residual.ensures.1 _ _ c.in_err-table.ensures.refusal

pub returns-then-has_high_bit-clause-refusal : goal.returns-then-has_high_bit-clause-refusal
unfolding line_of_set_checks
returns-then-has_high_bit-clause-refusal c =
    catches (own_left _ _ (sym c.in_ok-table.ensures.refusal)) (cc c.in_ok-table.ensures.table)

pub returns-clause-refusal : goal.returns-clause-refusal
unfolding line_of_set_checks
returns-clause-refusal c =
    none_left (next (own_left _ _ (sym c.in_ok-table.ensures.refusal)) (cc c.in_ok-table.ensures.table))
