-- Its outcome, at each return.
use Rattle.call_checks.proofs.RefusalLaws.{quiet_sheet}
use Rattle.call_checks.proofs.RefusalLaws.{scratch_long}
use Rattle.calls.proofs.SheetAnswer.{scratch_filled, scratch_kept, sheet_judged}
use Rattle.calls.specs.Calls.{keep_sheet_answer}
use Rattle.holder_lines.proofs.ScratchLaws.{lines-stand}
use Rattle.holder_lines.specs.Scratch.{LinesOf}
use Rattle.keep_sheet.proofs.FewLaws.{kept_few}
use Rattle.keeper.proofs.OutcomeLaws.{before_exit, fits, short_exit}
use Rattle.keeper.proofs.answers.keep_sheet.Goals as goal
use Rattle.keeper.proofs.answers.keep_sheet.Goals.{After-fill_lines}
use Rattle.std.proofs.Common.{arith, refl}
use Rattle.tables.proofs.RefusedLaws.{refused_some}

-- the scratch has the lines, from where they were filled
lined : (c : After-fill_lines) → LinesOf c.in_ok-table.table.bytes.now c.fill_lines.new.scratch
lined c = record {
  accepted = c.in_ok-table.table.accepted;
  lines = lines-stand _ _ _ (rw c.in_ok-table.ensures.table (scratch_long _ _ (quiet_sheet _ _ c.in_ok-table.ensures.refusal refl))) c.fill_lines.ensures;
}

pub returns-in_err-table-clause-outcome : goal.returns-in_err-table-clause-outcome
unfolding keep_sheet_answer
returns-in_err-table-clause-outcome c =
    before_exit c.from_residual.result _ c.from_residual.ensures.1 _ _ _ c.in_err-table.ensures.refusal

pub returns-in_err-table-clause-lines : goal.returns-in_err-table-clause-lines
returns-in_err-table-clause-lines c =
    scratch_kept _ _ c.in_err-table.ensures.refusal (refused_some _)

pub fill_lines-requires : goal.fill_lines-requires
fill_lines-requires c =
    record { table_in_bounds = rw c.in_ok-table.ensures.table (scratch_long _ _ (quiet_sheet _ _ c.in_ok-table.ensures.refusal refl)) }

pub invariant_of-holders : goal.invariant_of-holders
invariant_of-holders c = record { lines_of = lined (goal.at.invariant_of-holders c).After-fill_lines }

pub sheet_size-requires : goal.sheet_size-requires
sheet_size-requires c =
    let few = kept_few _ c.in_ok-table.table.accepted in
    record { kept_bound = omega (arith, c.count_checkpoints-kept.ensures, few.0); logged_bound = omega (arith, c.count_messages-logged.ensures, few.1) }

pub returns-in_err-size-clause-outcome : goal.returns-in_err-size-clause-outcome
unfolding keep_sheet_answer
returns-in_err-size-clause-outcome c =
    short_exit c.from_residual-in_err-size.result _ c.from_residual-in_err-size.ensures.1
    (sheet_judged _ (quiet_sheet _ _ c.in_ok-table.ensures.refusal refl) (rw c.in_ok-table.ensures.table at c.count_checkpoints-kept.ensures)
    (rw c.in_ok-table.ensures.table at c.count_messages-logged.ensures)) c.sheet_size.ensures c.in_err-size.ensures

pub returns-in_err-size-clause-lines : goal.returns-in_err-size-clause-lines
returns-in_err-size-clause-lines c =
    scratch_filled _ _ (quiet_sheet _ _ c.in_ok-table.ensures.refusal refl).quiet _ (rw c.in_ok-table.ensures.table at c.fill_lines.ensures)

pub put_sheet-requires : goal.put_sheet-requires
put_sheet-requires c =
    record {
      kept_is = c.count_checkpoints-kept.ensures;
      logged_is = c.count_messages-logged.ensures;
      room = omega (arith, c.in_ok-size.ensures, c.sheet_size.ensures);
    }

pub returns : goal.returns
unfolding keep_sheet_answer
returns c =
    let all = fits (sheet_judged _ (quiet_sheet _ _ c.in_ok-table.ensures.refusal refl) (rw c.in_ok-table.ensures.table at c.count_checkpoints-kept.ensures)
    (rw c.in_ok-table.ensures.table at c.count_messages-logged.ensures)) c.sheet_size.ensures c.in_ok-size.ensures
    (rw c.in_ok-table.ensures.table at c.put_sheet.ensures) in
    record {
      outcome = all.0;
      lines = scratch_filled _ _ (quiet_sheet _ _ c.in_ok-table.ensures.refusal refl).quiet _
          (rw c.in_ok-table.ensures.table at c.fill_lines.ensures);
      demand = all.1;
    }
