-- The checks, one after another.
use Rattle.call_checks.proofs.RefusalLaws.{catches, next, none_left, own_left}
use Rattle.call_checks.specs.CallChecks.{line_under_checks}
use Rattle.refusals.proofs.ExitLaws.{table_exit}
use Rattle.refusals.proofs.ceilings_refusal.Goals as goal
use Rattle.std.proofs.Common.{ap, sym}
use borrow.Author.Tests.{eq-eqb, ne_eqb}
use mathlib.Core.Bool.{not}

pub returns-in_err-table-clause-refusal : goal.returns-in_err-table-clause-refusal
unfolding line_under_checks
returns-in_err-table-clause-refusal c =
    table_exit c.from_residual.result _ c.from_residual.ensures.1 _ _ c.in_err-table.ensures.refusal

pub returns-then-ceilings-process_count-clause-refusal : goal.returns-then-ceilings-process_count-clause-refusal
unfolding line_under_checks
returns-then-ceilings-process_count-clause-refusal c =
    catches (own_left _ _ (sym c.in_ok-table.ensures.refusal)) (ap not (ne_eqb _ _
    (λ e. c.if-ceilings-process_count.true (cc (e, c.in_ok-table.ensures.table)))))

pub returns-then-above_counts-clause-refusal : goal.returns-then-above_counts-clause-refusal
unfolding line_under_checks
returns-then-above_counts-clause-refusal c =
    catches (next (own_left _ _ (sym c.in_ok-table.ensures.refusal)) (ap not (eq-eqb _ _ (cc c.in_ok-table.ensures.table)))) (cc c.in_ok-table.ensures.table)

pub returns-clause-refusal : goal.returns-clause-refusal
unfolding line_under_checks
returns-clause-refusal c =
    none_left (next (next (own_left _ _ (sym c.in_ok-table.ensures.refusal)) (ap not (eq-eqb _ _ (cc c.in_ok-table.ensures.table))))
    (cc c.in_ok-table.ensures.table))
