-- The answer of the keep sheet.
--     scratch_kept, scratch_filled    the scratch afterwards, where a check before 16 catches and where none does
--     sheet_promise, sheet_judged      what the call promises, and where no check before 16 catches
-- Assumes nothing.
use mathlib.Core.List.{List}
use mathlib.Core.Path.{◌≡◌, refl, sym, ap, ◌∙◌}
use Prim.Native.Nat.{ℕ, zero, suc, ◌+◌, ◌*◌}
use native.Mathlib.Omega.{arith}
use lib.ListN.{length}
use Rattle.consistency.specs.Ceilings.{holder_lines}
use Rattle.keep_sheet.proofs.FewLaws.{sheet-length}
use Rattle.keep_sheet.specs.Sheet.{kept_checkpoints, kept_messages, sheet}
use Rattle.calls.proofs.AnswerLaws.{Judged, Promise, put_in_front}
use Rattle.calls.proofs.SheetBytes.{sheet_holds}
use Rattle.calls.specs.Calls.{HoldsSheet, lines_unless, scratch_after}
use Rattle.call_checks.proofs.RefusalLaws.{Quiet, QuietCall}
use Rattle.call_checks.specs.CallChecks.{keep_sheet_checks}
use Rattle.tables.specs.Checks.{first_caught}
use Rattle.tables.specs.Format.{decode}
use Rattle.tables.specs.Numbers.{put_at}

module _ (table scratch : List ℕ) where
  pub scratch_kept : {r : ℕ} → r ≡ first_caught (keep_sheet_checks table (length scratch)) → (r ≡ 0 → ⊥) → scratch
      ≡ scratch_after table scratch
  unfolding scratch_after lines_unless
  scratch_kept {r = zero} e nonzero = absurd (nonzero refl)
  scratch_kept {r = suc n} e nonzero = ap (λ (r : ℕ). lines_unless r (holder_lines (decode table)) scratch) e

  pub scratch_filled : Quiet (keep_sheet_checks table (length scratch)) → (after : List ℕ) → after ≡ put_at scratch 0 (holder_lines (decode table))
      → after ≡ scratch_after table scratch
  unfolding scratch_after lines_unless
  scratch_filled q after put =
      put ∙ put_in_front scratch (holder_lines (decode table)) ∙ sym (ap (λ (r : ℕ). lines_unless r (holder_lines (decode table)) scratch) q.quiet)

abbrev pub sheet_promise : List ℕ → ℕ → ℕ → ℕ → Promise
sheet_promise table numbers kept logged = record {
  checks = keep_sheet_checks table numbers;
  bytes = sheet (decode table);
  size = 4 + 4 * kept + 2 * logged;
  Leaves = λ buffer _. HoldsSheet (decode table) buffer;
}

pub sheet_judged : {table : List ℕ} (numbers : ℕ) → QuietCall table (keep_sheet_checks table numbers) → {kept logged : ℕ}
    → kept ≡ length (kept_checkpoints (decode table)) → logged ≡ length (kept_messages (decode table))
    → Judged (sheet_promise table numbers kept logged)
sheet_judged {table} numbers q kept_is logged_is = record {
  quiet = q.quiet;
  sized = omega (arith, sheet-length (decode table));
  leaves = λ buffer put. sheet_holds table q.accepted buffer _ put;
}
