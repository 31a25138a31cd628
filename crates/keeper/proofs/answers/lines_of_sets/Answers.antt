-- Its outcome, at each return.
use Rattle.call_checks.proofs.RefusalLaws.{quiet_sets}
use Rattle.call_checks.proofs.RefusalLaws.{sets_few, sets_scratch_long}
use Rattle.calls.proofs.SetAnswers.{sets_judged, sets_scratch_filled, sets_scratch_kept}
use Rattle.calls.specs.Calls.{lines_of_sets, lines_of_sets_answer, scratch_of_sets}
use Rattle.keeper.proofs.OutcomeLaws.{before_exit, exit, fits, short_exit}
use Rattle.keeper.proofs.answers.lines_of_sets.Goals as goal
use Rattle.std.proofs.Common.{◌≡◌, refl}
use Rattle.tables.proofs.RefusedLaws.{refused_some}
use Rattle.tables.specs.Refusals.{refusal_in}

pub returns-in_err-table-clause-outcome : goal.returns-in_err-table-clause-outcome
unfolding lines_of_sets_answer lines_of_sets
returns-in_err-table-clause-outcome c =
    before_exit c.from_residual.result _ c.from_residual.ensures.1 _ _ _ c.in_err-table.ensures.refusal

pub returns-in_err-table-clause-holders : goal.returns-in_err-table-clause-holders
returns-in_err-table-clause-holders c =
    exit c.from_residual.result _ c.from_residual.ensures.1 (λ o. c.args.scratch.now ≡ scratch_of_sets (refusal_in o) c.args.bytes.now c.args.scratch.now)
    (sets_scratch_kept _ _ _ (refused_some _))

pub lines_size-requires : goal.lines_size-requires
lines_size-requires c =
    sets_few _ _ _ (quiet_sets _ _ _ c.in_ok-table.ensures.refusal refl)

pub returns-in_err-size-clause-outcome : goal.returns-in_err-size-clause-outcome
unfolding lines_of_sets_answer lines_of_sets
returns-in_err-size-clause-outcome c =
    short_exit c.from_residual-in_err-size.result _ c.from_residual-in_err-size.ensures.1
    (sets_judged _ _ _ (quiet_sets _ _ _ c.in_ok-table.ensures.refusal refl)) (rw c.in_ok-table.ensures.table at c.lines_size.ensures) c.in_err-size.ensures

pub returns-in_err-size-clause-holders : goal.returns-in_err-size-clause-holders
returns-in_err-size-clause-holders c =
    exit c.from_residual-in_err-size.result _ c.from_residual-in_err-size.ensures.1
    (λ o. c.args.scratch.now ≡ scratch_of_sets (refusal_in o) c.args.bytes.now c.args.scratch.now) (sets_scratch_kept _ _ _ (refused_some _))

pub put_lines_of_sets-requires-clause-table_in_bounds : goal.put_lines_of_sets-requires-clause-table_in_bounds
put_lines_of_sets-requires-clause-table_in_bounds c =
    rw c.in_ok-table.ensures.table (sets_scratch_long _ _ _ (quiet_sets _ _ _ c.in_ok-table.ensures.refusal refl))

pub returns : goal.returns
unfolding lines_of_sets_answer lines_of_sets
returns c =
    let all = fits (sets_judged _ _ _ (quiet_sets _ _ _ c.in_ok-table.ensures.refusal refl)) (rw c.in_ok-table.ensures.table at c.lines_size.ensures)
    c.in_ok-size.ensures (rw c.in_ok-table.ensures.table at c.put_lines_of_sets.ensures.lines) in
    record { outcome = all.0; holders = sets_scratch_filled _ _ (rw c.in_ok-table.ensures.table at c.put_lines_of_sets.ensures.holders); each = all.1 }
