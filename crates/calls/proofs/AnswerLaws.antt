-- What a call yields at each of its returns: where a check before 16 catches, where 16 alone does, and where nothing does.
--     put_in_front       what is put at the front of a buffer
--     refused, too_short_lem, answered    what is yielded there
--     answer_quiet       the answer itself, where nothing catches
--     answer_past        checks behind others, of which none catches
--     Promise, Meets, Judged    a call that judges, finds the size of its answer and puts it: what it promises, of a return too; no
--                        check before 16 catches
--     call_refused, call_short, call_answered    what is promised holds there
-- Assumes nothing.
use mathlib.Core.Bool.{true}
use mathlib.Core.List.{List, [], ◌∷◌, ◌++◌, append_assoc}
use mathlib.Core.Path.{◌≡◌, refl, sym, ap, ◌∙◌, subst}
use Prim.Native.Nat.{ℕ, zero, suc, ◌≤◌, ◌<◌}
use native.Mathlib.Nat.{zero-add}
use native.Mathlib.Omega.{arith}
use borrow.Author.Tests.{le-ltb, lt-ltb}
use lib.Dec.{ltb}
use lib.ListN.{length, drop}
use Rattle.calls.specs.Answers.{Answer, Yields, answer, buffer_after, length_after, number_of, unless}
use Rattle.call_checks.proofs.RefusalLaws.{Quiet}
use Rattle.tables.proofs.CheckLaws.{append_alike, append_passed, are_refusals, caught_first, passed, quiet_none, stopped}
use Rattle.tables.specs.Checks.{Check, first_caught}
use Rattle.tables.specs.Numbers.{put_at}

-- what is put at the front of a buffer
pub put_in_front : (buffer bytes : List ℕ) → put_at buffer 0 bytes ≡ bytes ++ drop (length bytes) buffer
unfolding put_at
put_in_front buffer bytes = rw zero-add

-- 16 is no success
pub sixteen : {P : Type 0} → ◌≡◌ {A = ℕ} 16 0 → P
sixteen e = absurd (omega (arith, e))

module _ (checks : List Check) (bytes : List ℕ) (room : ℕ) where
  abbrev last : List Check
  last = record { caught = ltb room (length bytes); number = 16 } ∷ []

  yields_refused : (r : ℕ) (buffer : List ℕ) (written : ℕ) → r ≡ first_caught (checks ++ last) → (r ≡ 0 → ⊥)
      → Yields (answer checks bytes room) r buffer buffer written written
  unfolding answer unless number_of buffer_after length_after
  yields_refused zero buffer written e nonzero = absurd (nonzero refl)
  yields_refused (suc n) buffer written e nonzero =
      subst (λ (k : ℕ). Yields (unless k bytes) (suc n) buffer buffer written written) e (record { number_is = refl; buffer_is = refl; length_is = refl })

  -- a check before 16 catches
  pub refused : {r : ℕ} {buffer : List ℕ} {written : ℕ} → r ≡ first_caught checks → (r ≡ 0 → ⊥)
      → Yields (answer checks bytes room) r buffer buffer written written
  refused e nonzero = yields_refused _ _ _ (caught_first checks last _ e nonzero) nonzero

  module _ (quiet : Quiet checks) {size : ℕ} (is : size ≡ length bytes) where
    past : first_caught (checks ++ last) ≡ first_caught last
    past = append_passed checks last quiet.refusals quiet.quiet

    -- 16 alone catches
    pub too_short_lem : {buffer : List ℕ} {written : ℕ} → room < size → Yields (answer checks bytes room) 16 buffer buffer written written
    too_short_lem short = yields_refused 16 _ _ (sym (past ∙ stopped _ _ (lt-ltb room (length bytes) (omega arith)))) sixteen

    past_all : size ≤ room → first_caught (checks ++ last) ≡ 0
    past_all enough = past ∙ passed _ _ _ (le-ltb room (length bytes) (omega arith)) quiet_none

    -- nothing catches, and the answer was put at the front of the buffer
    pub answered : {buffer buffer' : List ℕ} {written : ℕ} → size ≤ room → buffer' ≡ put_at buffer 0 bytes
        → Yields (answer checks bytes room) 0 buffer buffer' written size
    unfolding answer unless number_of buffer_after length_after
    answered enough put = rw (past_all enough) (record { number_is = refl; buffer_is = put ∙ put_in_front _ bytes; length_is = is })

    pub answer_quiet : size ≤ room → answer checks bytes room ≡ Answer.answered bytes
    unfolding answer unless
    answer_quiet enough = rw (past_all enough)

-- checks behind others, of which none catches: the answer is that by the others alone
pub answer_past : (front own : List Check) → are_refusals own ≡ true → first_caught own ≡ 0 → (bytes : List ℕ) (room : ℕ)
    → answer (front ++ own) bytes room ≡ answer front bytes room
unfolding answer
answer_past front own refusals quiet bytes room =
    ap (λ (n : ℕ). unless n bytes)
    (ap first_caught (append_assoc front own _) ∙ append_alike front _ (last front bytes room) (append_passed own _ refusals quiet))

-- ---- a call that judges, finds the size of its answer and puts it
-- What it promises: its checks before 16; the bytes of its answer, and how many; what it leaves in the buffer and in the length's place.
pub record Promise : Type 1 where
  pub checks : List Check
  pub bytes : List ℕ
  pub size : ℕ
  pub Leaves : List ℕ → ℕ → Type 0

-- What is promised of a return, by the number, the buffer and the length's place, before and after.
abbrev pub Meets : Promise → (room number : ℕ) (buffer buffer' : List ℕ) (written written' : ℕ) → Type 0
Meets promise room number buffer buffer' written written' =
    Yields (answer promise.checks promise.bytes room) number buffer buffer' written written'
    × (number ≡ 0 → promise.Leaves buffer' written')

-- No check before 16 catches; the answer has its size, and at the front of a buffer leaves what is promised.
pub record Judged (promise : Promise) : Type 0 where
  pub quiet : Quiet promise.checks
  pub sized : promise.size ≡ length promise.bytes
  pub leaves : (buffer : List ℕ) {buffer' : List ℕ} → buffer' ≡ put_at buffer 0 promise.bytes → promise.Leaves buffer' promise.size

pub call_refused : (checks : List Check) (bytes : List ℕ) (room : ℕ) {r : ℕ} {buffer : List ℕ} {written : ℕ} {More : Type 0}
    → r ≡ first_caught checks → (r ≡ 0 → ⊥) → Yields (answer checks bytes room) r buffer buffer written written × (r ≡ 0 → More)
call_refused checks bytes room e nonzero = (refused checks bytes room e nonzero, λ none. absurd (nonzero none))

-- the size was found
module _ {promise : Promise} (judged : Judged promise) {size room : ℕ} (found : size ≡ promise.size) where
  pub call_short : {buffer : List ℕ} {written : ℕ} → room < size → Meets promise room 16 buffer buffer written written
  call_short short = (too_short_lem _ _ _ judged.quiet (found ∙ judged.sized) short, sixteen)

  pub call_answered : {buffer buffer' : List ℕ} {written : ℕ} → size ≤ room → buffer' ≡ put_at buffer 0 promise.bytes
      → Meets promise room 0 buffer buffer' written size
  call_answered {buffer} enough put = (answered _ _ _ judged.quiet (found ∙ judged.sized) enough put, λ _. rw found (judged.leaves buffer put))
