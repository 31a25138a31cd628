-- The checks, one after another.
use Rattle.call_checks.proofs.RefusalLaws.{catches, first_of, neither, next, none_left, own_left, second_of}
use Rattle.call_checks.specs.CallChecks.{send_call_checks}
use Rattle.refusals.proofs.ExitLaws.{table_exit}
use Rattle.refusals.proofs.send_refusal.Goals as goal
use Rattle.refusals.proofs.send_refusal.Goals.{Else-unknown-2, then-unknown-via-else-unknown+then-unknown-2, then-unknown-via-then-unknown}
use Rattle.tables.specs.Format.{decode}
use Rattle.tables.specs.Table.{process_count}
use Rattle.std.proofs.Common.{false, leb, ◌≡◌, ◌||◌, sym, ◌∙◌}
use Rattle.steps.specs.Steps.{send_checks}
use borrow.Author.Tests.{eq-eqb, ne_eqb}

pub returns-in_err-table-clause-refusal : goal.returns-in_err-table-clause-refusal
unfolding send_call_checks send_checks
returns-in_err-table-clause-refusal c =
    table_exit c.from_residual.result _ c.from_residual.ensures.1 _ _ c.in_err-table.ensures.refusal

pub returns-then-unknown-clause-refusal : goal.returns-then-unknown-clause-refusal
unfolding send_call_checks send_checks
returns-then-unknown-clause-refusal c =
    catches (own_left _ _ (sym c.in_ok-table.ensures.refusal)) (elim c.then-unknown.branch [
      | then-unknown-via-then-unknown w ↦ first_of _ _ (rw c.in_ok-table.ensures.table at (sym c.unknown.ensures ∙ w.if-unknown.true))
      | then-unknown-via-else-unknown+then-unknown-2 w ↦ second_of _ _ (rw c.in_ok-table.ensures.table at (sym c.unknown.ensures ∙ w.if-unknown.false))
          (rw c.in_ok-table.ensures.table at (sym w.unknown-else-unknown.ensures ∙ w.if-unknown-2.true))
    ])

-- both processes are known
known : (c : Else-unknown-2)
    → (leb (process_count (decode c.args.bytes.now)) c.args.from || leb (process_count (decode c.args.bytes.now)) c.args.to) ≡ false
known c =
    neither _ _ (rw c.in_ok-table.ensures.table at (sym c.unknown.ensures ∙ c.if-unknown.false))
    (rw c.in_ok-table.ensures.table at (sym c.unknown-else-unknown.ensures ∙ c.if-unknown-2.false))

pub returns-then-from-to-clause-refusal : goal.returns-then-from-to-clause-refusal
unfolding send_call_checks send_checks
returns-then-from-to-clause-refusal c =
    catches (next (own_left _ _ (sym c.in_ok-table.ensures.refusal)) (known (goal.at.returns-then-from-to-clause-refusal c).Else-unknown-2))
    (eq-eqb _ _ c.if-from-to.true)

pub returns-then-full_of_messages-clause-refusal : goal.returns-then-full_of_messages-clause-refusal
unfolding send_call_checks send_checks
returns-then-full_of_messages-clause-refusal c =
    catches (next (next (own_left _ _ (sym c.in_ok-table.ensures.refusal)) (known (goal.at.returns-then-full_of_messages-clause-refusal c).Else-unknown-2))
    (ne_eqb _ _ c.if-from-to.false)) (cc c.in_ok-table.ensures.table)

pub returns-clause-refusal : goal.returns-clause-refusal
unfolding send_call_checks send_checks
returns-clause-refusal c =
    none_left (next (next (next (own_left _ _ (sym c.in_ok-table.ensures.refusal)) (known (goal.at.returns-clause-refusal c).Else-unknown-2))
    (ne_eqb _ _ c.if-from-to.false)) (cc c.in_ok-table.ensures.table))
