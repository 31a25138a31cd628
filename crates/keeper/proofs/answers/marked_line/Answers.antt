-- Its outcome, at each return.
use Rattle.call_checks.proofs.RefusalLaws.{marks_long, quiet_marking}
use Rattle.keeper.proofs.MarkingAnswers.{MarkedOutcome, MeetsByMarking, marked_answered, marked_ceiling, marked_refused, marked_short}
use Rattle.keeper.proofs.OutcomeLaws.{exit}
use Rattle.keeper.proofs.answers.marked_line.Goals as goal
use Rattle.keeper.proofs.answers.marked_line.Goals.{After-from_residual, After-from_residual-in_err-size}
use Rattle.std.proofs.Common.{Err, arith, length, refl, ℕ, ◌∙◌}
use Rattle.tables.proofs.RefusedLaws.{refused_some}
use Rattle.tables.specs.declared.refusal.Refusal.{Refusal}
use mathlib.Core.Path.{subst⁻¹}

-- a check before 16 catches
refused : (c : After-from_residual)
    → MarkedOutcome c.args.bytes.now c.args.ceilings.now (length c.args.answer.now) c.args.marks.now c.args.answer.now c.from_residual.result
refused c =
    exit c.from_residual.result _ c.from_residual.ensures.1
    (MarkedOutcome c.args.bytes.now c.args.ceilings.now (length c.args.answer.now) c.args.marks.now c.args.answer.now)
    (λ before. marked_refused _ _ _ _ c.in_err-table.ensures.refusal (refused_some _))

pub returns-in_err-table-clause-outcome : goal.returns-in_err-table-clause-outcome
returns-in_err-table-clause-outcome c = λ before. (refused c before).0

pub returns-in_err-table-clause-marks : goal.returns-in_err-table-clause-marks
returns-in_err-table-clause-marks c = (refused c 0).1.0

pub returns-in_err-table-clause-same : goal.returns-in_err-table-clause-same
returns-in_err-table-clause-same c = λ before. (refused c before).1.1.0

-- 16 does
short : (c : After-from_residual-in_err-size)
    → MarkedOutcome c.args.bytes.now c.args.ceilings.now (length c.args.answer.now) c.args.marks.now c.args.answer.now c.from_residual-in_err-size.result
short c =
    let Outcome : Refusal → Type 0 =
    λ r. MarkedOutcome c.args.bytes.now c.args.ceilings.now (length c.args.answer.now) c.args.marks.now c.args.answer.now (Err r) in
    exit c.from_residual-in_err-size.result _ c.from_residual-in_err-size.ensures.1
    (MarkedOutcome c.args.bytes.now c.args.ceilings.now (length c.args.answer.now) c.args.marks.now c.args.answer.now)
    (subst⁻¹ Outcome c.in_err-size.ensures.0
    (λ before.
    marked_short _ (quiet_marking _ _ _ c.in_ok-table.ensures.refusal refl) (rw c.in_ok-table.ensures.table at c.line_size.ensures) c.in_err-size.ensures.1))

pub returns-in_err-size-clause-outcome : goal.returns-in_err-size-clause-outcome
returns-in_err-size-clause-outcome c = λ before. (short c before).0

pub returns-in_err-size-clause-marks : goal.returns-in_err-size-clause-marks
returns-in_err-size-clause-marks c = (short c 0).1.0

pub returns-in_err-size-clause-same : goal.returns-in_err-size-clause-same
returns-in_err-size-clause-same c = λ before. (short c before).1.1.0

-- the answer
pub put_marked_line-requires-clause-ceiling : goal.put_marked_line-requires-clause-ceiling
put_marked_line-requires-clause-ceiling c =
    rw c.in_ok-table.ensures.table (marked_ceiling _ (quiet_marking _ _ _ c.in_ok-table.ensures.refusal refl))

pub put_marked_line-requires-clause-table_in_bounds : goal.put_marked_line-requires-clause-table_in_bounds
put_marked_line-requires-clause-table_in_bounds c =
    rw c.in_ok-table.ensures.table (marks_long _ _ _ (quiet_marking _ _ _ c.in_ok-table.ensures.refusal refl))

pub returns : goal.returns
returns c =
    let is = c.in_ok-table.ensures.table in
    let all : (before : ℕ)
    → MeetsByMarking c.args.bytes.now c.args.ceilings.now (length c.args.answer.now) 0 c.args.marks.now c.put_marked_line.new.marks c.args.answer.now
    c.put_marked_line.new.answer before c.in_ok-size.size =
    λ before.
    marked_answered _ (quiet_marking _ _ _ c.in_ok-table.ensures.refusal refl) (c.in_ok-size.ensures.0 ∙ rw is at c.line_size.ensures)
    (omega (arith, c.in_ok-size.ensures)) (rw is at c.put_marked_line.ensures.marks_after) (rw is at c.put_marked_line.ensures.put_by_marking) in
    record { outcome = λ before. (all before).0; marks = (all 0).1.0; same = λ before. (all before).1.1.0; latest = (all 0).1.1.1 refl }
