-- The answer of the call on many sets.
--     each_alone, each_latest     what stands in the buffer behind the lines before it: the answer for that set alone, its latest line
--     sets_promise, sets_judged    what the call promises, and where no check before 16 catches
--     sets_scratch_kept, sets_scratch_filled    the scratch afterwards, under a refusal and on success
-- Assumes nothing.
use mathlib.Core.List.{List, ◌++◌, append_assoc}
use mathlib.Core.Path.{◌≡◌, refl, sym, ap, ◌∙◌}
use Prim.Native.Nat.{ℕ, zero, suc, ◌*◌, ◌≤◌, ◌<◌}
use native.Mathlib.Nat.{mul-le-mul_left, mul-suc}
use native.Mathlib.Omega.{arith}
use lib.ListN.{length, get_or, take, drop}
use lib.Seq.{drop-append-le, drop-append_seam, take_at}
use Rattle.consistency.proofs.CeilingLaws.{set_ceiling, set-length}
use Rattle.consistency.specs.Ceilings.{ceiling_of, holder_lines, line_of}
use Rattle.calls.proofs.AnswerLaws.{Judged, Promise, answer_quiet, put_in_front}
use Rattle.calls.proofs.LineAnswers.{line_holds}
use Rattle.calls.specs.Answers.{answered}
use Rattle.calls.specs.Calls.{HoldsLatest, HoldsLineOfEach, line_answer, line_of_set_answer, lines_of_sets, lines_unless, scratch_of_sets}
use Rattle.call_checks.proofs.RefusalLaws.{QuietCall, quiet_each}
use Rattle.call_checks.specs.CallChecks.{lines_of_sets_checks}
use Rattle.process_set.specs.Sets.{member}
use Rattle.tables.proofs.ListLaws.{rows_from, rows-length}
use Rattle.tables.proofs.NumberLaws.{all-rows, length-u16s}
use Rattle.tables.specs.Format.{decode}
use Rattle.tables.specs.Lists.{rows}
use Rattle.tables.specs.Numbers.{put_at, u16s}
use Rattle.tables.specs.Table.{Table, process_count}

module _ (table sets : List ℕ) where
  abbrev t : Table
  t = decode table

  -- the line of a set, its bytes, and how many
  abbrev line : ℕ → List ℕ
  line k = line_of t (member (get_or sets k 0))

  abbrev width : ℕ
  width = 2 * process_count t

  each_width : (k : ℕ) → length (u16s (line k)) ≡ width
  each_width k = omega (arith, length-u16s (line k), set-length t (member (get_or sets k 0)))

  all_width : length (u16s (lines_of_sets t sets)) ≡ width * length sets
  unfolding lines_of_sets
  all_width = ap length (all-rows 2 line (length sets)) ∙ rows-length (λ k. u16s (line k)) width each_width (length sets)

  -- what stands behind the lines before line k: that line, and more
  behind : (buffer : List ℕ) {buffer' : List ℕ} → buffer' ≡ put_at buffer 0 (u16s (lines_of_sets t sets)) → (k : ℕ) → k < length sets
      → (rest : List ℕ) × (drop (width * k) buffer' ≡ u16s (line k) ++ rest)
  unfolding lines_of_sets
  behind buffer put k l =
      let bytes = u16s (rows line (length sets)) in
      let tail = drop (length bytes) buffer in
      let from = rows_from (λ k. u16s (line k)) width each_width (length sets) k l in (
        from.0 ++ tail,
        ap (drop (width * k)) (put ∙ put_in_front buffer bytes)
            ∙ drop-append-le (width * k) bytes tail (omega (arith, all_width, mul-suc width k, mul-le-mul_left width l))
            ∙ ap (λ (x : List ℕ). drop (width * k) x ++ tail) (all-rows 2 line (length sets))
            ∙ ap (λ (x : List ℕ). x ++ tail) from.1 ∙ append_assoc (u16s (line k)) from.0 tail,
      )

  -- no check before 16 catches, and the lines were put at the front of a buffer
  module _ (numbers : ℕ) (q : QuietCall table (lines_of_sets_checks table sets numbers)) (buffer : List ℕ) {buffer' : List ℕ}
      (put : buffer' ≡ put_at buffer 0 (u16s (lines_of_sets t sets))) (k : ℕ) (l : k < length sets) where
    abbrev set : ℕ
    set = get_or sets k 0

    abbrev here : List ℕ
    here = drop (width * k) buffer'

    each_alone : (room : ℕ) → width ≤ room → line_of_set_answer table set room ≡ answered (take width here)
    unfolding line_of_set_answer line_answer line_of
    each_alone room enough =
        let from = behind buffer put k l in
        answer_quiet _ (u16s (line k)) room (quiet_each table sets numbers q k l).quiet (sym (each_width k)) enough
        ∙ ap answered (sym (ap (take width) from.1 ∙ take_at (u16s (line k)) from.0 width (each_width k)))

    -- what stands there already is put there
    each_put : here ≡ put_at here 0 (u16s (line k))
    each_put =
        let from = behind buffer put k l in
        let bytes = u16s (line k) in
        from.1 ∙ sym (put_in_front here bytes ∙ ap (λ (x : List ℕ). bytes ++ drop (length bytes) x) from.1
        ∙ ap (λ (x : List ℕ). bytes ++ x) (drop-append_seam bytes from.0))

    each_latest : HoldsLatest table (ceiling_of t (member set)) here
    unfolding line_of
    each_latest = line_holds table q.accepted (set_ceiling t (member set)) here each_put

-- ---- what the call promises
abbrev pub sets_promise : List ℕ → List ℕ → ℕ → Promise
sets_promise table sets numbers = record {
  checks = lines_of_sets_checks table sets numbers;
  bytes = u16s (lines_of_sets (decode table) sets);
  size = 2 * process_count (decode table) * length sets;
  Leaves = λ buffer _. HoldsLineOfEach table sets buffer;
}

pub sets_judged : (table sets : List ℕ) (numbers : ℕ) → QuietCall table (lines_of_sets_checks table sets numbers)
    → Judged (sets_promise table sets numbers)
unfolding HoldsLineOfEach
sets_judged table sets numbers q = record {
  quiet = q.quiet;
  sized = sym (all_width table sets);
  leaves = λ buffer put k l. record { alone = each_alone table sets numbers q buffer put k l; latest = each_latest table sets numbers q buffer put k l };
}

-- ---- the scratch afterwards
module _ (table scratch : List ℕ) where
  pub sets_scratch_kept : (r : ℕ) → (r ≡ 0 → ⊥) → scratch ≡ scratch_of_sets r table scratch
  unfolding scratch_of_sets lines_unless
  sets_scratch_kept zero nonzero = absurd (nonzero refl)
  sets_scratch_kept (suc n) nonzero = refl

  pub sets_scratch_filled : {after : List ℕ} → after ≡ put_at scratch 0 (holder_lines (decode table)) → after ≡ scratch_of_sets 0 table scratch
  unfolding scratch_of_sets lines_unless
  sets_scratch_filled put = put ∙ put_in_front scratch (holder_lines (decode table))
