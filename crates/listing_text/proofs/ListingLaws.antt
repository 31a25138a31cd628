-- What the code reads is the listing of the table.
--     sheet_answered                the call for a keep sheet refuses by the table alone, and leaves its answers
--     Reading, listing_left         the listing, in the parts that the code puts
--     refused_text, accepted_text   the listing of bytes, by their refusal
--     listing_refused, listing_answered, text_listed    the call's answer
--     listing_ends                  it ends in the share
--     input_listed                  the listing of an input, by what was read of it
-- Assumes nothing.
use mathlib.Core.Bool.{Bool, true, false}
use mathlib.Core.List.{List, [], ◌∷◌, ◌++◌, append_assoc, append-nil}
use mathlib.Core.Path.{◌≡◌, refl, sym, ap, ap₂, ◌∙◌, subst⁻¹}
use Prim.Native.Nat.{ℕ, zero, suc, ◌+◌, ◌*◌, ◌≤◌, ◌<◌}
use native.Mathlib.Nat.{mul-le-mul}
use native.Mathlib.Omega.{arith}
use borrow.Author.Tests.{ltb-false, ltb-true}
use denote.Ref.{MutBor}
use lib.Dec.{ltb}
use lib.ListN.{length, take, drop, get_or, length-append, length-drop, length-take, take-append-drop}
use lib.Seq.{get_or-drop, take_all, take-append_seam}
use Rattle.consistency.proofs.CeilingLaws.{set-length}
use Rattle.consistency.proofs.HolderLaws.{holder_length, lines-length}
use Rattle.consistency.specs.Ceilings.{holder_line, holder_lines, recovery_line}
use Rattle.holder_lines.proofs.ScratchLaws.{entry_is, lines-stand}
use Rattle.holder_lines.specs.Scratch.{HoldsLines, lines_in}
use Rattle.keep_sheet.proofs.FewLaws.{kept_few, sheet-length}
use Rattle.keep_sheet.specs.Sheet.{Checkpoint, kept_checkpoints, kept_messages, sheet}
use Rattle.calls.proofs.AnswerLaws.{answered, put_in_front, refused, too_short_lem}
use Rattle.call_checks.proofs.RefusalLaws.{Quiet, long_scratch, table_caught}
use Rattle.calls.proofs.SheetBytes.{read_checkpoint, read_kept, read_logged, read_position, read_process}
use Rattle.calls.proofs.SheetAnswer.{scratch_filled}
use Rattle.calls.specs.Answers.{Yields, answer, buffer_after, length_after, number_of, unless}
use Rattle.calls.specs.Calls.{keep_sheet_answer, scratch_after}
use Rattle.call_checks.specs.CallChecks.{keep_sheet_checks}
use Rattle.listing_text.proofs.RowLaws.{line_in}
use Rattle.listings.proofs.ShareLaws.{share_rounded}
use Rattle.listings.proofs.SizeLaws.{listing_few}
use Rattle.text_writer.proofs.TextLaws.{Left, all_left, each_rows, overlay_front}
use Rattle.listings.specs.Listing.{EndsInShare, checkpoint_row, hold_row, line_row, listing, listing_answer, listing_of, listing_unless, message_row}
use Rattle.listings.specs.Listing.{refused_row, share, share_row}
use Rattle.listing_text.specs.Rows.{Answered, checkpoint_at, checkpoint_rows, hold_rows, line_at, message_rows}
use Rattle.text_writer.specs.Text.{Laid, each, overlay}
use Rattle.text_writer.specs.Writers.{standing}
use Rattle.tables.proofs.AcceptLaws.{front_refused}
use Rattle.tables.proofs.ArrayLaws.{array_front, array_length}
use Rattle.tables.proofs.CheckLaws.{are_refusals, quiet_none}
use Rattle.tables.proofs.ListLaws.{rows_ext, tabulate_ext, tabulate-get_or}
use Rattle.tables.proofs.ReadLaws.{processes_few}
use Rattle.tables.specs.Arrays.{array_of}
use Rattle.tables.specs.Checks.{first_caught, table_refusal}
use Rattle.tables.specs.Format.{decode, largest_table}
use Rattle.tables.specs.Lists.{rows, tabulate}
use Rattle.tables.specs.Numbers.{put_at, u16_at}
use Rattle.tables.specs.Table.{Table, process_count}

-- the first n numbers of a list that has them
take-tabulate : (n : ℕ) (l : List ℕ) → n ≤ length l → take n l ≡ tabulate n (λ p. get_or l p 0)
unfolding tabulate
take-tabulate zero l fits = refl
take-tabulate (suc n) [] fits = absurd (omega (arith, fits))
take-tabulate (suc n) (x ∷ l) fits = ap (λ (r : List ℕ). x ∷ r) (take-tabulate n l (omega (arith, fits)))

-- ---- the call for a keep sheet, with a scratch and a buffer that are always long enough
module _ (table scratch bytes : List ℕ) (long : 1024 ≤ length scratch) (room : 12292 ≤ length bytes) where
  abbrev t : Table
  t = decode table

  lines_room : table_refusal table ≡ 0 → process_count t * process_count t ≤ length scratch
  lines_room accepted = omega (arith, long, mul-le-mul (processes_few table accepted) (processes_few table accepted))

  quiet_sheet : table_refusal table ≡ 0 → Quiet (keep_sheet_checks table (length scratch))
  quiet_sheet accepted = (long_scratch table (length scratch) accepted (lines_room accepted)).quiet

  answered_by : (accepted : table_refusal table ≡ 0) (written : ℕ)
      → Yields (keep_sheet_answer table (length scratch) (length bytes)) 0 bytes (put_at bytes 0 (sheet t)) written (length (sheet t))
  unfolding keep_sheet_answer
  answered_by accepted written =
      answered (keep_sheet_checks table (length scratch)) (sheet t) (length bytes) (quiet_sheet accepted) refl
      (omega (arith, room, sheet-length t, (kept_few table accepted).0, (kept_few table accepted).1)) refl

  module _ {r : ℕ} {after scratch' : List ℕ} {written written' : ℕ}
      (y : Yields (keep_sheet_answer table (length scratch) (length bytes)) r bytes after written written')
      (filled : scratch' ≡ scratch_after table scratch) where
    refused_by : (k : ℕ) → table_refusal table ≡ suc k
        → Yields (keep_sheet_answer table (length scratch) (length bytes)) (suc k) bytes bytes written written
    unfolding keep_sheet_answer keep_sheet_checks
    refused_by k e =
        let some : suc k ≡ 0 → ⊥ = λ z. omega (arith, z) in
        refused (keep_sheet_checks table (length scratch)) (sheet t) (length bytes) (table_caught table _ (sym e) some) some

    pub sheet-number : r ≡ table_refusal table
    sheet-number = go (table_refusal table) refl where
      go : (k : ℕ) → table_refusal table ≡ k → r ≡ k
      go zero e = y.number_is ∙ sym (answered_by e written).number_is
      go (suc k) e = y.number_is ∙ sym (refused_by k e).number_is

    pub sheet_answered : table_refusal table ≡ 0 → Answered t scratch' after
    sheet_answered accepted = record {
      lines_are =
          lines-stand t scratch scratch' (lines_room accepted)
          (filled ∙ sym (scratch_filled table scratch (quiet_sheet accepted) (put_at scratch 0 (holder_lines t)) refl));
      sheet_is =
          ap (take (length (sheet t))) (y.buffer_is ∙ sym (answered_by accepted written).buffer_is ∙ put_in_front bytes (sheet t))
          ∙ take-append_seam (sheet t) (drop (length (sheet t)) bytes);
    }

-- ---- the parts of the listing, from what was read
pub record Reading (table : List ℕ) (n : ℕ) (line scratch bytes : List ℕ) (k q : ℕ) : Type 0 where
  pub accepted : table_refusal table ≡ 0
  pub answered : Answered (decode table) scratch bytes
  pub n_is : n ≡ process_count (decode table)
  pub line_is : line ≡ array_of (recovery_line (decode table))
  pub k_is : k ≡ u16_at bytes 0
  pub q_is : q ≡ u16_at bytes 2

module _ (table : List ℕ) (accepted : table_refusal table ≡ 0) where
  abbrev t₂ : Table
  t₂ = decode table

  recovery_read : (n : ℕ) (line : List ℕ) → n ≡ process_count t₂ → line ≡ array_of (recovery_line t₂)
      → (n ≤ length line) × (take n line ≡ recovery_line t₂)
  unfolding recovery_line
  recovery_read n line read_n is =
      let few : process_count t₂ ≤ 32 = processes_few table accepted in
      let size : length (recovery_line t₂) ≡ process_count t₂ = set-length t₂ (λ p. true) in
      let fits : n ≤ length line = omega (arith, ap length is, array_length (recovery_line t₂)) in
      (fits, array_front (recovery_line t₂) line n is (omega arith) (omega arith))

  module _ (scratch bytes : List ℕ) (h : Answered t₂ scratch bytes) where
    -- the lines of single holders
    lines_fit : process_count t₂ * process_count t₂ ≤ length scratch
    lines_fit = omega (arith, ap length h.lines_are, lines-length t₂, length-take (process_count t₂ * process_count t₂) scratch)

    line_read : (k : ℕ) → k < process_count t₂ → line_at scratch (process_count t₂) k ≡ holder_line t₂ k
    unfolding line_at lines_in
    line_read k l =
        let n₀ : ℕ = process_count t₂ in
        let inside : n₀ ≤ length (drop (n₀ * k) scratch) = omega (arith, lines_fit, line_in n₀ k l, length-drop (n₀ * k) scratch) in
        take-tabulate n₀ (drop (n₀ * k) scratch) inside
        ∙ tabulate_ext n₀ _ _ (λ i b. get_or-drop (n₀ * k) scratch i 0 ∙ entry_is record { accepted = accepted; lines = h.lines_are } k i l b)
        ∙ ap (λ (m : ℕ). tabulate m (λ i. get_or (holder_line t₂ k) i 0)) (sym (holder_length t₂ k)) ∙ tabulate-get_or (holder_line t₂ k) 0

    holds_read : (n : ℕ) → n ≡ process_count t₂ → hold_rows scratch n ≡ rows (λ k. hold_row k (holder_line t₂ k)) (process_count t₂)
    unfolding hold_rows
    holds_read n read_n = rw read_n (rows_ext _ _ (process_count t₂) (λ k l. ap (hold_row k) (line_read k l)))

    -- the sheet
    put : bytes ≡ put_at bytes 0 (sheet t₂)
    put =
        sym (take-append-drop (length (sheet t₂)) bytes) ∙ ap (λ (x : List ℕ). x ++ drop (length (sheet t₂)) bytes) h.sheet_is
        ∙ sym (put_in_front bytes (sheet t₂))

    kept_read : u16_at bytes 0 ≡ length (kept_checkpoints t₂)
    kept_read = read_kept table accepted bytes bytes put

    logged_read : u16_at bytes 2 ≡ length (kept_messages t₂)
    logged_read = read_logged table accepted bytes bytes put

    sheet_room : 4 + 4 * length (kept_checkpoints t₂) + 2 * length (kept_messages t₂) ≤ length bytes
    sheet_room = omega (arith, sheet-length t₂, ap length h.sheet_is, length-take (length (sheet t₂)) bytes)

    no-checkpoint : Checkpoint
    no-checkpoint = record { process = 0; number = 0 }

    checkpoints_read : (k : ℕ) → k ≡ u16_at bytes 0 → checkpoint_rows bytes k ≡ each checkpoint_row (kept_checkpoints t₂)
    unfolding checkpoint_rows checkpoint_at
    checkpoints_read k is =
        ap (rows (λ e. checkpoint_row (checkpoint_at bytes k e))) (is ∙ kept_read)
        ∙ rows_ext _ _ (length (kept_checkpoints t₂))
        (λ e l.
        ap₂ (λ (p c : ℕ). checkpoint_row (record { process = p; number = c })) (read_process table accepted bytes bytes put e no-checkpoint l)
        (ap (λ (x : ℕ). u16_at bytes (4 + 2 * x + 2 * e)) is ∙ read_checkpoint table accepted bytes bytes put e no-checkpoint l))
        ∙ sym (each_rows checkpoint_row no-checkpoint (kept_checkpoints t₂))

    messages_read : (k q : ℕ) → k ≡ u16_at bytes 0 → q ≡ u16_at bytes 2 → message_rows bytes k q ≡ each message_row (kept_messages t₂)
    unfolding message_rows
    messages_read k q is is₂ =
        ap (rows (λ e. message_row (u16_at bytes (4 + 4 * k + 2 * e)))) (is₂ ∙ logged_read)
        ∙ rows_ext _ _ (length (kept_messages t₂))
        (λ e l. ap message_row (ap (λ (x : ℕ). u16_at bytes (4 + 4 * x + 2 * e)) is ∙ read_position table accepted bytes bytes put e 0 l))
        ∙ sym (each_rows message_row 0 (kept_messages t₂))

module _ {table : List ℕ} {n : ℕ} {line scratch bytes : List ℕ} {k q : ℕ} (r : Reading table n line scratch bytes k q) where
  abbrev t₃ : Table
  t₃ = decode table

  -- what the rows need of the buffers
  pub line_room : n ≤ length line
  line_room = (recovery_read table r.accepted n line r.n_is r.line_is).0

  pub line_taken : n ≡ length (take n line)
  line_taken = omega (arith, line_room, length-take n line)

  pub holds_lines : HoldsLines n scratch
  holds_lines = rw r.n_is record {
    few = processes_few table r.accepted;
    room = lines_fit table r.accepted scratch bytes r.answered;
  }

  pub kept_is : k ≡ length (kept_checkpoints t₃)
  kept_is = r.k_is ∙ kept_read table r.accepted scratch bytes r.answered

  pub sheet_needs : 4 + 4 * k + 2 * q ≤ length bytes
  sheet_needs =
      omega (arith, kept_is, r.q_is, logged_read table r.accepted scratch bytes r.answered, sheet_room table r.accepted scratch bytes r.answered)

  -- the listing, in the parts that the code puts
  pub listing_left : {text : MutBor (List ℕ)} {s : ℕ} → s ≡ share t₃
      → Left (listing t₃) (standing text 0) (standing text 0)
      (line_row (take n line) ∷ hold_rows scratch n ∷ checkpoint_rows bytes k ∷ message_rows bytes k q ∷ share_row s ∷ [])
  unfolding listing each
  listing_left {s = s} is =
      let a : take n line ≡ recovery_line t₃ = (recovery_read table r.accepted n line r.n_is r.line_is).1 in
      let b = holds_read table r.accepted scratch bytes r.answered n r.n_is in
      let c = checkpoints_read table r.accepted scratch bytes r.answered k r.k_is in
      let d = messages_read table r.accepted scratch bytes r.answered k q r.k_is r.q_is in
      all_left (rw (a, b, c, d, is, append-nil)) (omega (arith, listing_few table r.accepted))

-- the first two numbers of a sheet stand in its bytes
pub sheet_long : (t : Table) (scratch bytes : List ℕ) → Answered t scratch bytes → 4 ≤ length bytes
sheet_long t scratch bytes h = omega (arith, sheet-length t, ap length h.sheet_is, length-take (length (sheet t)) bytes)

-- ---- the listing of bytes, by their refusal
pub refused_text : (table : List ℕ) (r : ℕ) → r ≡ table_refusal table → (r ≡ 0 → ⊥) → refused_row r ≡ listing_of table
unfolding listing_of listing_unless
refused_text table zero e nonzero = absurd (nonzero refl)
refused_text table (suc n) e nonzero = ap (λ (r : ℕ). listing_unless r (listing (decode table))) e

pub accepted_text : (table : List ℕ) → table_refusal table ≡ 0 → listing (decode table) ≡ listing_of table
unfolding listing_of listing_unless
accepted_text table accepted = rw accepted

-- ---- a listing ends in its share
share_last : (table : List ℕ) → table_refusal table ≡ 0 → EndsInShare (decode table) (listing (decode table))
unfolding listing
share_last table accepted =
    let t : Table = decode table in
    ends (line_row (recovery_line t)) (rows (λ k. hold_row k (holder_line t k)) (process_count t))
    (each checkpoint_row (kept_checkpoints t)) (each message_row (kept_messages t)) where
      ends : (a b c d : List ℕ) → EndsInShare (decode table) (a ++ (b ++ (c ++ (d ++ share_row (share (decode table))))))
      ends a b c d =
          let last : List ℕ = share_row (share (decode table)) in
          let cd = append_assoc c d last in
          let bcd = append_assoc b (c ++ d) last ∙ ap (λ (l : List ℕ). b ++ l) cd in
          record {
            before = a ++ (b ++ (c ++ d));
            percent = share (decode table);
            text_is = sym (append_assoc a (b ++ (c ++ d)) last ∙ ap (λ (l : List ℕ). a ++ l) bcd);
            is_rounded = share_rounded table accepted;
          }

-- an answer that is no refusal: the text at the front of the buffer
pub text_listed : (table : List ℕ) {buffer buffer' : List ℕ} {r written written' : ℕ}
    → Yields (listing_answer table (length buffer)) r buffer buffer' written written' → r ≡ 0
    → (written' ≤ length buffer') × (take written' buffer' ≡ listing_of table)
unfolding listing_answer answer unless number_of buffer_after length_after first_caught
text_listed table {buffer} {buffer'} {r} {written} {written'} y none = go (ltb (length buffer) (length text)) refl where
  text : List ℕ
  text = listing_of table

  go : (b : Bool) → ltb (length buffer) (length text) ≡ b → (written' ≤ length buffer') × (take written' buffer' ≡ text)
  go true e = absurd (omega (arith, none, (rw e at y.number_is)))
  go false e =
      let size : written' ≡ length text = rw e at y.length_is in
      let put : buffer' ≡ text ++ drop (length text) buffer = rw e at y.buffer_is in
      (omega (arith, size, ap length put, length-append text (drop (length text) buffer)), ap₂ (take {A = ℕ}) size put ∙ take-append_seam text _)

-- ---- the call's answer, once the text was measured by an empty buffer
module _ (table buffer : List ℕ) {last : List ℕ} {size : ℕ} (measured : Laid [] last 0 (listing_of table) size) where
  unchanged : last ++ buffer ≡ buffer
  unfolding overlay
  unchanged = ap (λ (l : List ℕ). l ++ buffer) measured.contents

  pub listing_longer : length (last ++ buffer) < size → length buffer < length (listing_of table)
  listing_longer short = omega (arith, short, ap length unchanged, measured.place)

  -- no check but 16
  no-checks : Quiet []
  unfolding are_refusals
  no-checks = record { refusals = refl; quiet = quiet_none }

  pub listing_refused : {written : ℕ} → length (last ++ buffer) < size
      → Yields (listing_answer table (length buffer)) 16 buffer (last ++ buffer) written written
  unfolding listing_answer
  listing_refused short = rw unchanged (too_short_lem [] (listing_of table) (length buffer) no-checks refl (listing_longer short))

  module _ (enough : size ≤ length (last ++ buffer)) {after : List ℕ} {end : ℕ} (laid : Laid (last ++ buffer) after 0 (listing_of table) end) where
    fits : size ≤ length buffer
    fits = omega (arith, enough, ap length unchanged)

    size_is : size ≡ length (listing_of table)
    size_is = omega (arith, measured.place)

    text_put : after ≡ put_at buffer 0 (listing_of table)
    text_put =
        laid.contents ∙ ap (λ (b : List ℕ). overlay b 0 (listing_of table)) unchanged
        ∙ overlay_front buffer (listing_of table) (omega (arith, fits, size_is)) ∙ sym (put_in_front buffer (listing_of table))

    pub listing_answered : {written : ℕ} → Yields (listing_answer table (length buffer)) 0 buffer after written size
    unfolding listing_answer
    listing_answered = answered [] (listing_of table) (length buffer) no-checks size_is fits text_put

    pub listing_ends : table_refusal table ≡ 0 → EndsInShare (decode table) (take size after)
    listing_ends accepted =
        let front = (text_listed table (listing_answered {written = 0}) refl).1 in
        subst⁻¹ (EndsInShare (decode table)) (front ∙ sym (accepted_text table accepted)) (share_last table accepted)

-- what was read of an input, with room for more than the largest table, is listed as the whole input is
pub input_listed : (buffer : List ℕ) (len : ℕ) → largest_table < length buffer → (input : List ℕ) → take len buffer ≡ take (length buffer) input
    → listing_of (take len buffer) ≡ listing_of input
unfolding listing_of listing_unless
input_listed buffer len long input read = ap listing_of read ∙ go (ltb (length input) (length buffer)) refl where
  go : (b : Bool) → ltb (length input) (length buffer) ≡ b → listing_of (take (length buffer) input) ≡ listing_of input
  go true e = ap listing_of (take_all (length buffer) input (omega (arith, ltb-true (length input) (length buffer) e)))
  go false e =
      let refused = front_refused input (length buffer) long (ltb-false (length input) (length buffer) e) in
      rw (refused.1, refused.2)
