-- The checks, one after another.
use Rattle.call_checks.proofs.RefusalLaws.{catches, first_of, neither, next, none_left, own_left, second_of}
use Rattle.call_checks.specs.CallChecks.{receipt_call_checks}
use Rattle.refusals.proofs.ExitLaws.{table_exit}
use Rattle.refusals.proofs.receipt_refusal.Goals as goal
use Rattle.refusals.proofs.receipt_refusal.Goals.{Else-not_rising, then-bad_position-via-else-bad_position+then-not_rising}
use Rattle.refusals.proofs.receipt_refusal.Goals.{then-bad_position-via-then-bad_position}
use Rattle.tables.specs.Format.{decode}
use Rattle.tables.specs.Lists.{any}
use Rattle.std.proofs.Common.{false, ◌≡◌, ◌||◌, sym, ◌∙◌}
use Rattle.steps.specs.Steps.{bad_position, not_rising, receipt_checks}

pub returns-in_err-table-clause-refusal : goal.returns-in_err-table-clause-refusal
unfolding receipt_call_checks receipt_checks
returns-in_err-table-clause-refusal c =
    table_exit c.from_residual.result _ c.from_residual.ensures.1 _ _ c.in_err-table.ensures.refusal

pub returns-then-unknown-clause-refusal : goal.returns-then-unknown-clause-refusal
unfolding receipt_call_checks receipt_checks
returns-then-unknown-clause-refusal c =
    catches (own_left _ _ (sym c.in_ok-table.ensures.refusal)) (cc c.in_ok-table.ensures.table)

pub returns-then-bad_position-clause-refusal : goal.returns-then-bad_position-clause-refusal
unfolding receipt_call_checks receipt_checks
returns-then-bad_position-clause-refusal c =
    catches (next (own_left _ _ (sym c.in_ok-table.ensures.refusal)) (cc c.in_ok-table.ensures.table)) (elim c.then-bad_position.branch [
      | then-bad_position-via-then-bad_position w ↦ first_of _ _ (rw c.in_ok-table.ensures.table at (sym c.bad_position.ensures ∙ w.if-bad_position.true))
      | then-bad_position-via-else-bad_position+then-not_rising w ↦ second_of _ _
          (rw c.in_ok-table.ensures.table at (sym c.bad_position.ensures ∙ w.if-bad_position.false)) (sym w.not_rising.ensures ∙ w.if-not_rising.true)
    ])

-- the list is good
good_list : (c : Else-not_rising) → (any (bad_position (decode c.args.bytes.now) c.args.process) c.args.list.now || not_rising c.args.list.now) ≡ false
good_list c =
    neither _ _ (rw c.in_ok-table.ensures.table at (sym c.bad_position.ensures ∙ c.if-bad_position.false))
    (sym c.not_rising.ensures ∙ c.if-not_rising.false)

pub returns-then-passes_over-clause-refusal : goal.returns-then-passes_over-clause-refusal
unfolding receipt_call_checks receipt_checks
returns-then-passes_over-clause-refusal c =
    catches (next (next (own_left _ _ (sym c.in_ok-table.ensures.refusal)) (cc c.in_ok-table.ensures.table))
    (good_list (goal.at.returns-then-passes_over-clause-refusal c).Else-not_rising)) (cc c.in_ok-table.ensures.table)

pub returns-clause-refusal : goal.returns-clause-refusal
unfolding receipt_call_checks receipt_checks
returns-clause-refusal c =
    none_left (next (next (next (own_left _ _ (sym c.in_ok-table.ensures.refusal)) (cc c.in_ok-table.ensures.table))
    (good_list (goal.at.returns-clause-refusal c).Else-not_rising)) (cc c.in_ok-table.ensures.table))
