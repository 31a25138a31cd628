-- The answers of the line by marking.
--     MeetsByMarking, MarkedOutcome    all that the call promises; of an outcome
--     marked_refused, marked_short, marked_answered    where a check before 16 catches, where 16 does, and where none does
--     marked_ceiling         where no check before 16 catches, the ceilings are a ceiling
--     marked_under           where the mark buffer is long enough, the answer is that of the line under ceilings, byte for byte, and refused alike
-- Assumes nothing.
use mathlib.Core.List.{List}
use mathlib.Core.Path.{◌≡◌, refl, ap, ◌∙◌, subst}
use Prim.Native.Nat.{ℕ, ◌*◌, ◌≤◌, ◌<◌}
use borrow.Author.Tests.{le-ltb}
use lib.ListN.{length}
use Rattle.consistency.specs.Ceilings.{Ceiling}
use Rattle.consistency.specs.Lowering.{line_under}
use Rattle.calls.proofs.AnswerLaws.{answer_past, call_answered, call_refused, call_short, sixteen}
use Rattle.calls.proofs.LineAnswers.{ceilings_accepted, line_judged, marks_unchanged}
use Rattle.calls.specs.Answers.{Yields}
use Rattle.calls.specs.Calls.{HoldsLatest, YieldsByMarking, line_answer, line_under_answer, marked_line_answer, marks_after}
use Rattle.keeper.specs.Outcomes.{length_in}
use Rattle.std.proofs.Common.{Result}
use Rattle.tables.specs.Refusals.{refusal_in}
use Rattle.tables.specs.declared.refusal.Refusal.{Refusal}
use Rattle.marked_line.specs.Marking.{PutByMarking}
use Rattle.marking.proofs.SameLine.{same_line}
use Rattle.marking.specs.Procedure.{EndsWith}
use Rattle.marking.specs.SameLine.{SameLine}
use Rattle.marks.specs.Room.{cleared, marks_size}
use Rattle.call_checks.proofs.RefusalLaws.{QuietCall, quiet_ceilings}
use Rattle.call_checks.specs.CallChecks.{line_under_checks, marked_line_checks}
use Rattle.tables.proofs.AcceptLaws.{facts}
use Rattle.tables.proofs.CheckLaws.{are_refusals, passed, quiet_none}
use Rattle.tables.specs.Checks.{first_caught}
use Rattle.tables.specs.Format.{decode}
use Rattle.tables.specs.Numbers.{put_at, u16s}
use Rattle.tables.specs.Table.{process_count}

-- All that the call promises: what it yields, the mark buffer afterwards, the same by the line under ceilings, and that this is the latest one.
abbrev pub MeetsByMarking : List ℕ → List ℕ → ℕ → ℕ → List ℕ → List ℕ → List ℕ → List ℕ → ℕ → ℕ → Type 0
MeetsByMarking table ceilings room number marks marks' buffer buffer' written written' =
    YieldsByMarking table ceilings (length marks) room number buffer buffer' written written'
    × ((marks' ≡ marks_after number table marks)
    × (Yields (marked_line_answer table ceilings (length marks) room) number buffer buffer' written written'
    × (number ≡ 0 → HoldsLatest table ceilings buffer')))

-- The same of an outcome that leaves what was lent as it was.
abbrev pub MarkedOutcome : List ℕ → List ℕ → ℕ → List ℕ → List ℕ → Result ℕ Refusal → Type 0
MarkedOutcome table ceilings room marks buffer outcome =
    (before : ℕ) → MeetsByMarking table ceilings room (refusal_in outcome) marks marks buffer buffer before (length_in outcome before)

module _ (table ceilings : List ℕ) (room : ℕ) (marks : List ℕ) {r : ℕ} {buffer : List ℕ} {written : ℕ} where
  pub marked_refused : r ≡ first_caught (marked_line_checks table ceilings (length marks)) → (r ≡ 0 → ⊥)
      → MeetsByMarking table ceilings room r marks marks buffer buffer written written
  unfolding marked_line_answer line_answer
  marked_refused e nonzero =
      let line = call_refused _ _ room e nonzero in
      (record { roots = _; by_marking = λ none. absurd (nonzero (e ∙ none)); yields = line.0 }, (marks_unchanged _ table marks nonzero, line))

-- none of them catches
pub marked_ceiling : {table ceilings : List ℕ} (bytes : ℕ) → QuietCall table (marked_line_checks table ceilings bytes) → Ceiling (decode table) ceilings
marked_ceiling bytes q = ceilings_accepted (quiet_ceilings _ _ bytes q)

module _ {table ceilings : List ℕ} (marks : List ℕ) (q : QuietCall table (marked_line_checks table ceilings (length marks))) where
  agrees : SameLine (decode table) ceilings
  agrees = same_line (decode table) (facts table q.accepted).well_formed ceilings (marked_ceiling _ q)

  ends : EndsWith (decode table) ceilings (line_under (decode table).messages ceilings)
  ends = subst (EndsWith (decode table) ceilings) (agrees.same _ agrees.ends.1) agrees.ends.1

  pub marked_short : {size : ℕ} → size ≡ 2 * process_count (decode table) → {room : ℕ} {buffer : List ℕ} {written : ℕ} → room < size
      → MeetsByMarking table ceilings room 16 marks marks buffer buffer written written
  unfolding marked_line_answer line_answer
  marked_short found short =
      let line = call_short (line_judged q (marked_ceiling _ q)) found short in
      (record { roots = _; by_marking = λ _. ends; yields = line.0 }, (marks_unchanged 16 table marks sixteen, line))

  pub marked_answered : {size : ℕ} → size ≡ 2 * process_count (decode table) → {room : ℕ} {marks' buffer buffer' : List ℕ} {written : ℕ}
      → size ≤ room → marks' ≡ cleared (marks_size (decode table)) marks → PutByMarking (decode table) ceilings buffer buffer'
      → MeetsByMarking table ceilings room 0 marks marks' buffer buffer' written size
  unfolding marked_line_answer line_answer marks_after
  marked_answered found {buffer = buffer} enough clear put =
      let same = ap (λ (l : List ℕ). put_at buffer 0 (u16s l)) (agrees.same _ put.by_marking) in
      let line = call_answered (line_judged q (marked_ceiling _ q)) found enough (put.put ∙ same) in
      (record { roots = _; by_marking = λ _. ends; yields = line.0 }, (clear, line))

-- 19 is the one check more, so where it catches nothing both calls answer alike, also where the table or the ceilings are refused, or the
-- answer's buffer is too short.
pub marked_under : (table ceilings : List ℕ) (bytes room : ℕ) → marks_size (decode table) ≤ bytes
    → marked_line_answer table ceilings bytes room ≡ line_under_answer table ceilings room
unfolding marked_line_answer line_under_answer line_answer marked_line_checks are_refusals
marked_under table ceilings bytes room long =
    answer_past (line_under_checks table ceilings) _ refl (passed _ _ 0 (le-ltb bytes (marks_size (decode table)) long) quiet_none) _ room
