-- The answers about named checkpoints that stand together.
--     names_parallel, names_few    where no check of the call catches, the lists are of one length and each process is known
--     names_accepted     and they are names of the run
--     told               whether the line misses one of them, as the code found it in an array
--     stand-under        a yes is the line under the names' ceiling, as keeper_line_under answers it, byte for byte
--     MeetsStanding, StandingOutcome    all that the call promises; of an outcome
--     standing_refused, standing-no, standing_short, standing-yes    what the call yields and tells at each of its returns
-- Assumes nothing.
use mathlib.Core.Bool.{Bool, true, false, true≢false, ◌||◌}
use mathlib.Core.List.{List, []}
use mathlib.Core.Path.{◌≡◌, refl, sym, ap, ◌∙◌, subst⁻¹}
use Prim.Native.Nat.{ℕ, ◌*◌, ◌≤◌, ◌<◌}
use native.Mathlib.Omega.{arith}
use borrow.Author.Tests.{eqb-true, not-false}
use lib.ListN.{take}
use Rattle.consistency.specs.Ceilings.{Ceiling}
use Rattle.consistency.specs.Lines.{AtOrBelow, Line, as_line}
use Rattle.steps.proofs.StepLaws.{rising}
use Rattle.steps.specs.Steps.{not_rising}
use Rattle.calls.proofs.AnswerLaws.{Judged, answer_past, answered, call_answered, call_short, put_in_front, refused, sixteen}
use Rattle.calls.proofs.LineAnswers.{line_judged, line_promise, numbers_read, under_past}
use Rattle.calls.specs.Answers.{Yields}
use Rattle.calls.specs.Calls.{HoldsStanding, TellsTogether, line_answer, line_under_answer, stand_together_answer, standing_bytes}
use Rattle.keeper.specs.Outcomes.{length_in}
use Rattle.std.proofs.Common.{Result}
use Rattle.tables.specs.Refusals.{refusal_in}
use Rattle.tables.specs.declared.refusal.Refusal.{Refusal}
use Rattle.named_checkpoints.proofs.NamedLaws.{line_found, misses_found, parallel, place_inside}
use Rattle.named_checkpoints.specs.Lists.{Parallel}
use Rattle.call_checks.proofs.RefusalLaws.{QuietCall, own_left, quiet_by}
use Rattle.call_checks.specs.CallChecks.{stand_together_checks}
use Rattle.tables.proofs.AcceptLaws.{facts}
use Rattle.tables.proofs.CheckLaws.{are_refusals, caught_by}
use Rattle.tables.proofs.ListLaws.{or_false_left, or_false_right}
use Rattle.tables.specs.Arrays.{array_of}
use Rattle.tables.specs.Checks.{first_caught, table_checks}
use Rattle.tables.specs.Format.{decode}
use Rattle.tables.specs.Numbers.{put_at, u16s}
use Rattle.tables.specs.Table.{Table, most_processes, process_count}
use Rattle.zigzag.proofs.NameLaws.{named_ceiling_lem, names_checked}
use Rattle.zigzag.proofs.TogetherLaws.{together}
use Rattle.zigzag.specs.Names.{Names, unknown_named}
use Rattle.zigzag.specs.Together.{StandOn, Together, misses, named_ceiling, named_line}

-- All that the call promises: what it yields, and what it tells where no check before 16 catches.
abbrev pub MeetsStanding : List ℕ → List ℕ → List ℕ → ℕ → ℕ → List ℕ → List ℕ → ℕ → ℕ → Type 0
MeetsStanding table processes states room number buffer buffer' written written' =
    Yields (stand_together_answer table processes states room) number buffer buffer' written written'
    × (first_caught (stand_together_checks table processes states) ≡ 0 → TellsTogether (decode table) processes states number buffer' written')

-- The same of an outcome that leaves the buffer as it was.
abbrev pub StandingOutcome : List ℕ → List ℕ → List ℕ → ℕ → List ℕ → Result ℕ Refusal → Type 0
StandingOutcome table processes states room buffer outcome =
    (before : ℕ) → MeetsStanding table processes states room (refusal_in outcome) buffer buffer before (length_in outcome before)

pub standing_refused : (table processes states : List ℕ) (room : ℕ) {r : ℕ} {buffer : List ℕ} {written : ℕ}
    → r ≡ first_caught (stand_together_checks table processes states) → (r ≡ 0 → ⊥)
    → MeetsStanding table processes states room r buffer buffer written written
unfolding stand_together_answer
standing_refused table processes states room e nonzero = (refused _ _ room e nonzero, λ none. absurd (nonzero (e ∙ none)))

-- no check before 16 catches
module _ (table processes states : List ℕ) (q : QuietCall table (stand_together_checks table processes states)) where
  abbrev t : Table
  t = decode table

  good_processes : (unknown_named t processes || not_rising processes) ≡ false
  unfolding stand_together_checks table_checks caught_by
  good_processes = quiet_by q 21

  pub names_parallel : Parallel (process_count t) processes states
  unfolding stand_together_checks table_checks caught_by
  names_parallel =
      parallel t processes states (eqb-true _ _ (not-false _ (quiet_by q 20))) (or_false_left (unknown_named t processes) (not_rising processes) good_processes)

  -- of the processes of any table
  pub names_few : Parallel most_processes processes states
  names_few = record { for_each = names_parallel.for_each; known = λ k l. place_inside table q.accepted names_parallel l }

  pub names_accepted : Names t processes states
  unfolding stand_together_checks table_checks caught_by
  names_accepted =
      names_checked t processes states names_parallel.for_each names_parallel.known
      (rising processes (or_false_right (unknown_named t processes) (not_rising processes) good_processes)) (quiet_by q 22)

  pub told : {array : List ℕ} → array ≡ array_of (named_line t processes states) → {r b : Bool} → r ≡ misses processes states array → r ≡ b
      → misses processes states (named_line t processes states) ≡ b
  told found e is = sym (misses_found table q.accepted processes states found) ∙ sym e ∙ is

  agrees : Together t processes states
  agrees = together (facts table q.accepted).well_formed names_accepted

  ceiling : Ceiling t (named_ceiling t processes states)
  ceiling = named_ceiling_lem names_accepted

  abbrev line : List ℕ
  line = named_line t processes states

  -- one of the names is not on the line
  pub standing-no : misses processes states line ≡ true → (room : ℕ) {buffer : List ℕ} {written : ℕ}
      → MeetsStanding table processes states room 0 buffer buffer written 0
  unfolding stand_together_answer standing_bytes
  standing-no e room {buffer} = (
    rw e (answered _ [] room q.quiet refl (omega arith) (sym (put_in_front buffer []))),
    λ _. record { no = (λ _. agrees.told.0 e, λ _. (refl, refl)); yes = λ _ some. absurd (some refl) },
  )

  -- all of them are, and the size of a line was found
  module _ (e : misses processes states line ≡ false) {size : ℕ} (found : size ≡ 2 * process_count t) where
    judged : Judged (line_promise (stand_together_checks table processes states) table (named_ceiling t processes states))
    judged = line_judged q ceiling

    pub standing_short : {room : ℕ} {buffer : List ℕ} {written : ℕ} → room < size
        → MeetsStanding table processes states room 16 buffer buffer written written
    unfolding stand_together_answer standing_bytes named_line
    standing_short short = (
      rw e (call_short judged found short).0,
      λ _. record { no = (λ zero. sixteen zero.0, λ z. absurd (true≢false (sym (agrees.told.1 z) ∙ e))); yes = sixteen },
    )

    -- the line was put at the front of the buffer
    module _ {room : ℕ} (buffer : List ℕ) {buffer' : List ℕ} (enough : size ≤ room) {array : List ℕ} (in_array : array ≡ array_of line)
        (put-array : buffer' ≡ put_at buffer 0 (u16s (take (process_count t) array))) where
      put : buffer' ≡ put_at buffer 0 (u16s line)
      put = put-array ∙ ap (λ (l : List ℕ). put_at buffer 0 (u16s l)) (line_found table q.accepted processes states in_array)

      held : HoldsStanding t processes states buffer'
      unfolding HoldsStanding named_line
      held =
          subst⁻¹
          (λ (l : List ℕ). StandOn t processes states (as_line l) × ((other : Line) → StandOn t processes states other → AtOrBelow other (as_line l)))
          (numbers_read table q.accepted ceiling buffer put)
          (agrees.stands (λ z. true≢false (sym (agrees.told.1 z) ∙ e)), agrees.latest)

      pub standing-yes : {written : ℕ} → MeetsStanding table processes states room 0 buffer buffer' written size
      unfolding stand_together_answer standing_bytes named_line
      standing-yes = (
        rw e (call_answered judged found enough put).0,
        λ _. record {
          no = (λ zero. absurd (nonzero zero.1), λ z. absurd (true≢false (sym (agrees.told.1 z) ∙ e)));
          yes = λ _ _. held;
        },
      )
        where
          nonzero : size ≡ 0 → ⊥
          nonzero z = omega (arith, z, found, (facts table q.accepted).well_formed.some_process)

  -- The names' ceiling passes 17 and 18; so a yes is the answer of the line under it, also where the buffer is too short.
  pub stand-under : misses processes states line ≡ false → (room : ℕ)
      → stand_together_answer table processes states room ≡ line_under_answer table (named_ceiling t processes states) room
  unfolding stand_together_answer standing_bytes line_answer stand_together_checks are_refusals named_line
  stand-under e room =
      rw e
      (answer_past (table_checks table) _ refl (sym (own_left table _ q.accepted).same ∙ q.quiet.quiet) _ room ∙ sym (under_past table ceiling room))
