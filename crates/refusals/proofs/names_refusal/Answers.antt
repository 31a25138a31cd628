-- The checks, one after another.
use Rattle.call_checks.proofs.RefusalLaws.{catches, first_of, neither, next, none_left, own_left, second_of}
use Rattle.call_checks.specs.CallChecks.{stand_together_checks}
use Rattle.named_checkpoints.proofs.NamedLaws.{parallel}
use Rattle.refusals.proofs.ExitLaws.{table_exit}
use Rattle.refusals.proofs.names_refusal.Goals as goal
use Rattle.refusals.proofs.names_refusal.Goals.{then-unknown_process-via-else-unknown_process+then-not_rising, then-unknown_process-via-then-unknown_process}
use Rattle.std.proofs.Common.{ap, sym, ◌∙◌}
use borrow.Author.Tests.{eq-eqb, ne_eqb}
use mathlib.Core.Bool.{not}

pub returns-in_err-table-clause-refusal : goal.returns-in_err-table-clause-refusal
unfolding stand_together_checks
returns-in_err-table-clause-refusal c =
    table_exit c.from_residual.result _ c.from_residual.ensures.1 _ _ c.in_err-table.ensures.refusal

pub returns-then-processes-states-clause-refusal : goal.returns-then-processes-states-clause-refusal
unfolding stand_together_checks
returns-then-processes-states-clause-refusal c =
    catches (own_left _ _ (sym c.in_ok-table.ensures.refusal)) (ap not (ne_eqb _ _ c.if-processes-states.true))

pub returns-then-unknown_process-clause-refusal : goal.returns-then-unknown_process-clause-refusal
unfolding stand_together_checks
returns-then-unknown_process-clause-refusal c =
    catches (next (own_left _ _ (sym c.in_ok-table.ensures.refusal)) (ap not (eq-eqb _ _ c.if-processes-states.false))) (elim c.then-unknown_process.branch [
      | then-unknown_process-via-then-unknown_process w ↦ first_of _ _ (rw c.in_ok-table.ensures.table at
          (sym c.unknown_process.ensures ∙ w.if-unknown_process.true))
      | then-unknown_process-via-else-unknown_process+then-not_rising w ↦ second_of _ _
          (rw c.in_ok-table.ensures.table at (sym c.unknown_process.ensures ∙ w.if-unknown_process.false)) (sym w.not_rising.ensures ∙ w.if-not_rising.true)
    ])

pub invariant_of-names : goal.invariant_of-names
invariant_of-names c = record {
  parallel = parallel _ _ _ c.if-processes-states.false (sym c.unknown_process.ensures ∙ c.if-unknown_process.false);
}

pub returns-then-not_below_counts-clause-refusal : goal.returns-then-not_below_counts-clause-refusal
unfolding stand_together_checks
returns-then-not_below_counts-clause-refusal c =
    catches (next (next (own_left _ _ (sym c.in_ok-table.ensures.refusal)) (ap not (eq-eqb _ _ c.if-processes-states.false)))
    (neither _ _ (rw c.in_ok-table.ensures.table at (sym c.unknown_process.ensures ∙ c.if-unknown_process.false))
    (sym c.not_rising.ensures ∙ c.if-not_rising.false))) (cc c.in_ok-table.ensures.table)

pub returns-clause-refusal : goal.returns-clause-refusal
unfolding stand_together_checks
returns-clause-refusal c =
    none_left (next (next (next (own_left _ _ (sym c.in_ok-table.ensures.refusal)) (ap not (eq-eqb _ _ c.if-processes-states.false)))
    (neither _ _ (rw c.in_ok-table.ensures.table at (sym c.unknown_process.ensures ∙ c.if-unknown_process.false))
    (sym c.not_rising.ensures ∙ c.if-not_rising.false))) (cc c.in_ok-table.ensures.table))
