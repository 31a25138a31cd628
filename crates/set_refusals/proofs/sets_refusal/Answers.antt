-- The checks, one after another.
use Rattle.call_checks.proofs.RefusalLaws.{catches, next, none_left, own_left}
use Rattle.call_checks.specs.CallChecks.{lines_of_sets_checks, most_sets}
use Rattle.refusals.proofs.ExitLaws.{table_exit}
use Rattle.set_refusals.proofs.sets_refusal.Goals as goal
use Rattle.std.proofs.Common.{sym}
use borrow.Author.Tests.{le-ltb, lt-ltb}

pub returns-in_err-table-clause-refusal : goal.returns-in_err-table-clause-refusal
unfolding lines_of_sets_checks most_sets
returns-in_err-table-clause-refusal c =
    table_exit c.from_residual.result _ c.from_residual.ensures.1 _ _ c.in_err-table.ensures.refusal

pub returns-then-sets-gt-MOST_SETS-clause-refusal : goal.returns-then-sets-gt-MOST_SETS-clause-refusal
unfolding lines_of_sets_checks most_sets
returns-then-sets-gt-MOST_SETS-clause-refusal c =
    catches (own_left _ _ (sym c.in_ok-table.ensures.refusal)) (lt-ltb _ _ c.if-sets-gt-MOST_SETS.true)

pub returns-then-some_high_bit-clause-refusal : goal.returns-then-some_high_bit-clause-refusal
unfolding lines_of_sets_checks most_sets
returns-then-some_high_bit-clause-refusal c =
    catches (next (own_left _ _ (sym c.in_ok-table.ensures.refusal)) (le-ltb _ _ c.if-sets-gt-MOST_SETS.false)) (cc c.in_ok-table.ensures.table)

pub returns-then-short_of_lines-clause-refusal : goal.returns-then-short_of_lines-clause-refusal
unfolding lines_of_sets_checks most_sets
returns-then-short_of_lines-clause-refusal c =
    catches (next (next (own_left _ _ (sym c.in_ok-table.ensures.refusal)) (le-ltb _ _ c.if-sets-gt-MOST_SETS.false)) (cc c.in_ok-table.ensures.table))
    (cc c.in_ok-table.ensures.table)

pub returns-clause-refusal : goal.returns-clause-refusal
unfolding lines_of_sets_checks most_sets
returns-clause-refusal c =
    none_left (next (next (next (own_left _ _ (sym c.in_ok-table.ensures.refusal)) (le-ltb _ _ c.if-sets-gt-MOST_SETS.false)) (cc c.in_ok-table.ensures.table))
    (cc c.in_ok-table.ensures.table))
