-- What an outcome tells.
--     exit                        where it passes on a refusal: what holds of that
--     before_exit, short_exit     so where a check before 16 catches, and where 16 does
--     fits                        where the answer fits, and was put
--     told_holds                  as numbers: where the number is 0, what holds of an answer
-- Assumes nothing.
use Prim.Native.Nat.{ℕ, ◌<◌, ◌≤◌}
use mathlib.Core.List.{List}
use mathlib.Core.Path.{◌≡◌, ap, refl, subst⁻¹, sym, ◌∙◌}
use native.Mathlib.Omega.{arith}
use Rattle.calls.proofs.AnswerLaws.{Judged, Meets, Promise, call_answered, call_short, refused}
use Rattle.calls.specs.Answers.{Yields, answer}
use Rattle.keeper.specs.Outcomes.{Outcome, length_in}
use Rattle.std.proofs.Common.{Err, IfOk, Ok, Result}
use Rattle.std.proofs.lemmas.Result.{err_from_is_err_and}
use Rattle.std.specs.Result.{IsErrAnd}
use Rattle.tables.proofs.RefusedLaws.{refused_some}
use Rattle.tables.specs.Checks.{Check, first_caught}
use Rattle.tables.specs.Numbers.{put_at}
use Rattle.tables.specs.Refusals.{refusal_in, refusal_number}
use Rattle.tables.specs.declared.refusal.Refusal.{Refusal}
use Rattle.tables.specs.declared.refusal.Refusal.TheVariants.{AnswerTooShort}

-- ---- a refusal is passed on
module _ (outcome : Result ℕ Refusal) (refusal : Refusal) (told : IsErrAnd outcome (λ e. e ≡ refusal)) where
  pub exit : (P : Result ℕ Refusal → Type 0) → P (Err refusal) → P outcome
  exit P here =
      let p = err_from_is_err_and outcome told in
      subst⁻¹ P (p.1 ∙ ap Err p.2) here

  pub before_exit : (checks : List Check) (bytes : List ℕ) (room : ℕ) → refusal_number refusal ≡ first_caught checks → {buffer : List ℕ}
      → Outcome (answer checks bytes room) outcome buffer buffer
  before_exit checks bytes room caught {buffer} before =
      exit (λ o. Yields (answer checks bytes room) (refusal_in o) buffer buffer before (length_in o before))
      (refused checks bytes room caught (refused_some refusal))

  pub short_exit : {promise : Promise} → Judged promise → {size room : ℕ} → size ≡ promise.size → (refusal ≡ AnswerTooShort) × (room < size)
      → {buffer : List ℕ} → Outcome (answer promise.checks promise.bytes room) outcome buffer buffer
  short_exit {promise} judged {room = room} found short {buffer} before =
      exit (λ o. Yields (answer promise.checks promise.bytes room) (refusal_in o) buffer buffer before (length_in o before))
      (subst⁻¹ (λ (r : Refusal). Yields (answer promise.checks promise.bytes room) (refusal_number r) buffer buffer before before) short.0
      (call_short judged found short.1).0)

-- ---- the answer fits, and was put
pub fits : {promise : Promise} → Judged promise → {length size room : ℕ} → size ≡ promise.size → (length ≡ size) × (size ≤ room)
    → {buffer buffer' : List ℕ} → buffer' ≡ put_at buffer 0 promise.bytes
    → ((before : ℕ) → Yields (answer promise.checks promise.bytes room) 0 buffer buffer' before length) × promise.Leaves buffer' length
fits {promise} judged {length} {room = room} found fit {buffer} {buffer'} put =
    let all : (before : ℕ) → Meets promise room 0 buffer buffer' before length =
    λ before. call_answered judged (fit.0 ∙ found) (omega (arith, fit)) put in
    (λ before. (all before).0, (all 0).1 refl)

-- ---- as numbers
pub told_holds : (outcome : Result ℕ Refusal) (P : ℕ → Type 0) → IfOk outcome P → (before : ℕ) {number written : ℕ} → number
    ≡ refusal_in outcome
    → written ≡ length_in outcome before → number ≡ 0 → P written
told_holds (Ok length) P holds before number-is length-is none = subst⁻¹ P length-is holds
told_holds (Err refusal) P holds before number-is length-is none = absurd (refused_some refusal (sym number-is ∙ none))
