-- Its outcome, at each return.
use Rattle.call_checks.proofs.RefusalLaws.{quiet_names}
use Rattle.keeper.proofs.OutcomeLaws.{exit}
use Rattle.keeper.proofs.StandingAnswers.{MeetsStanding, StandingOutcome, names_parallel, standing-no, standing-yes, standing_refused}
use Rattle.keeper.proofs.StandingAnswers.{standing_short, told}
use Rattle.keeper.proofs.answers.stand_together.Goals as goal
use Rattle.keeper.proofs.answers.stand_together.Goals.{After-from_residual-in_err-size, Else-misses_named}
use Rattle.std.proofs.Common.{Err, arith, false, length, refl, ℕ, ◌≡◌, ◌∙◌}
use Rattle.tables.proofs.RefusedLaws.{refused_some}
use Rattle.tables.specs.Format.{decode}
use Rattle.tables.specs.declared.refusal.Refusal.{Refusal}
use Rattle.zigzag.specs.Together.{misses, named_line}
use mathlib.Core.Path.{subst⁻¹}

-- a check before 16 catches
pub returns-in_err-table-clause-outcome : goal.returns-in_err-table-clause-outcome
returns-in_err-table-clause-outcome c =
    let all =
    exit c.from_residual.result _ c.from_residual.ensures.1
    (StandingOutcome c.args.bytes.now c.args.processes.now c.args.states.now (length c.args.answer.now) c.args.answer.now)
    (λ before. standing_refused _ _ _ _ c.in_err-table.ensures.refusal (refused_some _)) in
    λ before. (all before).0

-- the line is found
pub invariant_of-names : goal.invariant_of-names
invariant_of-names c = record {
  parallel = rw c.in_ok-table.ensures.table (names_parallel _ _ _ (quiet_names _ _ _ c.in_ok-table.ensures.refusal refl));
}

-- a no
pub returns-then-misses_named : goal.returns-then-misses_named
returns-then-misses_named c =
    let quiet = quiet_names _ _ _ c.in_ok-table.ensures.refusal refl in
    let missed = told _ _ _ quiet (rw c.in_ok-table.ensures.table at c.named_line-line.ensures) c.misses_named.ensures c.if-misses_named.true in
    let all : (before : ℕ)
    → MeetsStanding c.args.bytes.now c.args.processes.now c.args.states.now (length c.args.answer.now) 0 c.args.answer.now c.args.answer.now before 0 =
    λ before. standing-no _ _ _ quiet missed _ in
    record { outcome = λ before. (all before).0; zigzag = λ none before. (all before).1 none }

-- the line has the names
has_names : (c : Else-misses_named)
    → misses c.args.processes.now c.args.states.now (named_line (decode c.args.bytes.now) c.args.processes.now c.args.states.now) ≡ false
has_names c =
    told _ _ _ (quiet_names _ _ _ c.in_ok-table.ensures.refusal refl) (rw c.in_ok-table.ensures.table at c.named_line-line.ensures) c.misses_named.ensures
    c.if-misses_named.false

-- 16
short : (c : After-from_residual-in_err-size)
    → misses c.args.processes.now c.args.states.now (named_line (decode c.args.bytes.now) c.args.processes.now c.args.states.now) ≡ false
    → StandingOutcome c.args.bytes.now c.args.processes.now c.args.states.now (length c.args.answer.now) c.args.answer.now
    c.from_residual-in_err-size.result
short c has =
    let Outcome : Refusal → Type 0 =
    λ r. StandingOutcome c.args.bytes.now c.args.processes.now c.args.states.now (length c.args.answer.now) c.args.answer.now (Err r) in
    exit c.from_residual-in_err-size.result _ c.from_residual-in_err-size.ensures.1
    (StandingOutcome c.args.bytes.now c.args.processes.now c.args.states.now (length c.args.answer.now) c.args.answer.now)
    (subst⁻¹ Outcome c.in_err-size.ensures.0
    (λ before.
    standing_short _ _ _ (quiet_names _ _ _ c.in_ok-table.ensures.refusal refl) has (rw c.in_ok-table.ensures.table at c.line_size.ensures)
    c.in_err-size.ensures.1))

pub returns-in_err-size : goal.returns-in_err-size
returns-in_err-size c =
    let all = short c (has_names (goal.at.returns-in_err-size c).Else-misses_named) in
    record { outcome = λ before. (all before).0; zigzag = λ none before. (all before).1 none }

-- a yes
pub returns : goal.returns
returns c =
    let is = c.in_ok-table.ensures.table in
    let all : (before : ℕ)
    → MeetsStanding c.args.bytes.now c.args.processes.now c.args.states.now (length c.args.answer.now) 0 c.args.answer.now c.put_line.new.answer before
    c.in_ok-size.size =
    λ before.
    standing-yes _ _ _ (quiet_names _ _ _ c.in_ok-table.ensures.refusal refl) (has_names (goal.at.returns c).Else-misses_named)
    (c.in_ok-size.ensures.0 ∙ rw is at c.line_size.ensures) _ (omega (arith, c.in_ok-size.ensures)) (rw is at c.named_line-line.ensures)
    (rw is at c.put_line.ensures) in
    record { outcome = λ before. (all before).0; zigzag = λ none before. (all before).1 none }
