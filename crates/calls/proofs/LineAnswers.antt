-- The answers of the line calls.
--     numbers_read       the numbers of an answer are the line's
--     line_holds         they are the latest consistent line under a ceiling
--     line_promise, line_judged    what a line call promises, and where no check before 16 catches
--     ceilings_accepted  where no check of the call catches, the ceilings that were lent are a ceiling
--     under_past         where they are one, the answer is by the table's checks alone
--     set-under          where 12 catches nothing, the line of a set is the line under the set's ceiling, byte for byte, and refused alike
--     marks_unchanged    under a refusal of the line by marking the marks are as they were
-- Assumes nothing.
use mathlib.Core.Bool.{false, not}
use mathlib.Core.List.{List}
use mathlib.Core.Path.{◌≡◌, refl, sym, ap, ◌∙◌, subst⁻¹}
use Prim.Native.Nat.{ℕ, zero, suc, ◌*◌, ◌<◌}
use native.Mathlib.Omega.{arith}
use borrow.Author.Tests.{eq-eqb, eqb-true, not-false}
use lib.ListN.{length, get_or, drop}
use lib.Seq.{ext_get_or}
use Rattle.consistency.proofs.CeilingLaws.{ceiling_checked, ceiling_quiet, set_ceiling, under_below, under-length}
use Rattle.consistency.proofs.LoweringLaws.{line_latest}
use Rattle.consistency.specs.Ceilings.{Ceiling, ceiling_of}
use Rattle.consistency.specs.Lines.{Latest, as_line}
use Rattle.consistency.specs.Lowering.{line_under}
use Rattle.calls.proofs.AnswerLaws.{Judged, Promise, answer_past, put_in_front}
use Rattle.calls.specs.Calls.{HoldsLatest, line_answer, line_of_set_answer, line_under_answer, marks_after}
use Rattle.process_set.specs.Sets.{high_bit, member}
use Rattle.call_checks.proofs.RefusalLaws.{QuietCall, quiet_by}
use Rattle.call_checks.specs.CallChecks.{line_of_set_checks, line_under_checks}
use Rattle.tables.proofs.AcceptLaws.{facts}
use Rattle.tables.proofs.CheckLaws.{are_refusals, caught_by, passed, quiet_none}
use Rattle.tables.proofs.ListLaws.{get_or_tabulate, length-tabulate}
use Rattle.tables.proofs.NumberLaws.{length-u16s, u16_at-u16s}
use Rattle.tables.specs.Checks.{Check, table_checks, table_refusal}
use Rattle.tables.specs.Format.{decode}
use Rattle.tables.specs.Lists.{tabulate}
use Rattle.tables.specs.Numbers.{put_at, u16_at, u16s}
use Rattle.tables.specs.Table.{Table, process_count}

module _ (table : List ℕ) (accepted : table_refusal table ≡ 0) where
  abbrev t : Table
  t = decode table

  -- the line under a ceiling was put at the front of a buffer
  module _ {ceiling : List ℕ} (c : Ceiling t ceiling) (buffer : List ℕ) {buffer' : List ℕ}
      (put : buffer' ≡ put_at buffer 0 (u16s (line_under t.messages ceiling))) where
    abbrev line : List ℕ
    line = line_under t.messages ceiling

    number_read : (p : ℕ) → p < process_count t → u16_at buffer' (2 * p) ≡ get_or line p 0
    number_read p l =
        ap (λ (b : List ℕ). u16_at b (2 * p)) (put ∙ put_in_front buffer (u16s line))
        ∙ u16_at-u16s line (drop (length (u16s line)) buffer) p (omega (arith, under-length t ceiling c))
        (omega (arith, under_below t ceiling c p, (facts table accepted).limits.counts_limit p l))

    pub numbers_read : tabulate (process_count t) (λ p. u16_at buffer' (2 * p)) ≡ line
    numbers_read =
        let size = length-tabulate (process_count t) (λ p. u16_at buffer' (2 * p)) in
        ext_get_or 0 _ line (size ∙ sym (under-length t ceiling c))
        (λ p l.
        let below : p < process_count t = omega (arith, size) in
        get_or_tabulate (process_count t) _ p 0 below ∙ number_read p below)

    pub line_holds : HoldsLatest table ceiling buffer'
    unfolding HoldsLatest
    line_holds = subst⁻¹ (λ (l : List ℕ). Latest t.messages (as_line ceiling) (as_line l)) numbers_read (line_latest t.messages ceiling)

-- ---- what a line call promises
abbrev pub line_promise : List Check → List ℕ → List ℕ → Promise
line_promise checks table ceiling = record {
  checks = checks;
  bytes = u16s (line_under (decode table).messages ceiling);
  size = 2 * process_count (decode table);
  Leaves = λ buffer _. HoldsLatest table ceiling buffer;
}

pub line_judged : {table : List ℕ} {checks : List Check} → QuietCall table checks → {ceiling : List ℕ} → Ceiling (decode table) ceiling
    → Judged (line_promise checks table ceiling)
line_judged {table} q {ceiling} c = record {
  quiet = q.quiet;
  sized = omega (arith, length-u16s (line_under (decode table).messages ceiling), under-length (decode table) ceiling c);
  leaves = λ buffer put. line_holds table q.accepted c buffer put;
}

pub ceilings_accepted : {table ceilings : List ℕ} → QuietCall table (line_under_checks table ceilings) → Ceiling (decode table) ceilings
unfolding line_under_checks table_checks caught_by
ceilings_accepted q = ceiling_checked _ _ (eqb-true _ _ (not-false _ (quiet_by q 17))) (quiet_by q 18)

-- A ceiling passes 17 and 18.
pub under_past : (table : List ℕ) {ceiling : List ℕ} → Ceiling (decode table) ceiling → (room : ℕ)
    → line_under_answer table ceiling room ≡ line_answer (table_checks table) table ceiling room
unfolding line_under_answer line_answer line_under_checks are_refusals
under_past table {ceiling} c room =
    answer_past (table_checks table) _ refl
    (passed _ _ 0 (ap not (eq-eqb _ _ c.for_each)) (passed _ _ 0 (ceiling_quiet (decode table) ceiling c) quiet_none)) _ room

-- So where 12 catches nothing either, both calls answer alike, also where the table is refused or the buffer is too short.
pub set-under : (table : List ℕ) (set : ℕ) → high_bit set (process_count (decode table)) ≡ false
    → (room : ℕ) → line_of_set_answer table set room ≡ line_under_answer table (ceiling_of (decode table) (member set)) room
unfolding line_of_set_answer line_answer line_of_set_checks are_refusals
set-under table set quiet room =
    answer_past (table_checks table) _ refl (passed _ _ 0 quiet quiet_none) _ room ∙ sym (under_past table (set_ceiling (decode table) (member set)) room)

-- under a refusal the marks are as they were
pub marks_unchanged : (r : ℕ) (table marks : List ℕ) → (r ≡ 0 → ⊥) → marks ≡ marks_after r table marks
unfolding marks_after
marks_unchanged zero table marks nonzero = absurd (nonzero refl)
marks_unchanged (suc n) table marks nonzero = refl
