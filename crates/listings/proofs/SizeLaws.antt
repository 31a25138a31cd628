-- How long a listing can be.
--     fields_few .. share_few      each part
--     listing_few, text_few        the whole: 80,000 bytes are always enough
-- Assumes nothing.
use mathlib.Core.Bool.{true}
use mathlib.Core.List.{List, [], ◌∷◌, ◌++◌}
use mathlib.Core.Path.{◌≡◌, refl, ap}
use Prim.Native.Nat.{ℕ, zero, suc, ◌+◌, ◌*◌, ◌≤◌, ◌<◌}
use native.Mathlib.Omega.{arith}
use lib.ListN.{length, get_or, length-append}
use Rattle.consistency.proofs.CeilingLaws.{set_below, set-length}
use Rattle.consistency.specs.Ceilings.{Holders, holder_line, line_of, recovery_line, single}
use Rattle.tables.proofs.FormatLaws.{known_process}
use Rattle.keep_sheet.proofs.FewLaws.{kept_few}
use Rattle.keep_sheet.proofs.KeptLaws.{checkpoints_listed, keeps_checkpoint_lem, listed_at, messages_listed}
use Rattle.tables.specs.Lists.{Listed, rows}
use Rattle.keep_sheet.specs.Sheet.{Checkpoint, kept_checkpoints, kept_messages}
use Rattle.listings.proofs.ShareLaws.{share_most}
use Rattle.text_writer.proofs.TextLaws.{decimal_few, each_rows, tens}
use Rattle.listings.specs.Listing.{checkpoint_row, hold_row, line_row, listing, listing_of, listing_unless, message_row, refused_row, share, share_row}
use Rattle.text_writer.specs.Text.{each, field, row}
use Rattle.tables.proofs.AcceptLaws.{facts}
use Rattle.tables.proofs.ListLaws.{rows_most}
use Rattle.tables.proofs.ReadLaws.{messages_few, processes_few}
use Rattle.tables.specs.Checks.{table_refusal}
use Rattle.tables.specs.Format.{decode}
use Rattle.tables.specs.Table.{Table, count_of, message_count, process_count}

-- ---- fields and rows
field_few : (k n : ℕ) → n < tens k → length (field n) ≤ suc (suc k)
unfolding field
field_few k n l = omega (arith, decimal_few k n l)

fields_few : (k : ℕ) (ns : List ℕ) → ((i : ℕ) → i < length ns → get_or ns i 0 < tens k) → length (each field ns) ≤ suc (suc k) * length ns
fields_few k ns few =
    omega (
      arith,
      ap length (each_rows field 0 ns),
      rows_most (λ i. field (get_or ns i 0)) (suc (suc k)) (length ns)
          (λ i l. field_few k (get_or ns i 0) (few i l)),
    )

-- the texts of a list's entries, w bytes at most each
each_few : {A : Type 0} (g : A → List ℕ) (d : A) (xs : List A) (w : ℕ) → ((i : ℕ) → i < length xs → length (g (get_or xs i d)) ≤ w)
    → length (each g xs) ≤ w * length xs
each_few g d xs w few = omega (arith, ap length (each_rows g d xs), rows_most (λ i. g (get_or xs i d)) w (length xs) few)

pub row_few : (word ns : List ℕ) (most : ℕ) → length (each field ns) ≤ most → length (row word ns) ≤ length word + most + 1
unfolding row
row_few word ns most few = omega (arith, length-append word (each field ns ++ (10 ∷ [])), length-append (each field ns) (10 ∷ []))

-- a field more
fields_more : (k n : ℕ) (ns : List ℕ) (most : ℕ) → n < tens k → length (each field ns) ≤ most
    → length (each field (n ∷ ns)) ≤ suc (suc k) + most
unfolding each
fields_more k n ns most l few = omega (arith, length-append (field n) (each field ns), field_few k n l)

no_fields : length (each field []) ≤ 0
unfolding each
no_fields = omega arith

-- ---- the rows of an accepted table
module _ (table : List ℕ) (accepted : table_refusal table ≡ 0) where
  abbrev t : Table
  t = decode table

  line_fields : (holds : Holders) → length (each field (line_of t holds)) ≤ 160
  unfolding tens
  line_fields holds =
      let size : length (line_of t holds) ≡ process_count t = set-length t holds in
      omega (
        arith,
        processes_few table accepted,
        size,
        fields_few 3 (line_of t holds) (λ p l. omega (arith, set_below t holds p, (facts table accepted).limits.counts_limit p (omega (arith, l, size)))),
      )

  line_few : length (line_row (recovery_line t)) ≤ 165
  unfolding line_row recovery_line
  line_few = row_few _ _ 160 (line_fields (λ p. true))

  hold_few : (k : ℕ) → k < process_count t → length (hold_row k (holder_line t k)) ≤ 168
  unfolding hold_row holder_line tens
  hold_few k l = row_few _ _ 163 (fields_more 1 k _ 160 (omega (arith, processes_few table accepted)) (line_fields (single k)))

  -- a kept checkpoint has small numbers
  checkpoint_few : (x : Checkpoint) → Listed x (kept_checkpoints t) → length (checkpoint_row x) ≤ 19
  unfolding checkpoint_row tens
  checkpoint_few x h =
      let below : x.number < count_of t x.process = ((keeps_checkpoint_lem t x.process x.number).0 ((checkpoints_listed t x.process x.number).0 h)).0 in
      let known : x.process < process_count t = known_process t x.process x.number below in
      row_few _ _ 8
      (fields_more 1 x.process _ 5 (omega (arith, processes_few table accepted))
      (fields_more 3 x.number [] 0 (omega (arith, (facts table accepted).limits.counts_limit x.process known)) no_fields))

  message_few : (k : ℕ) → k < message_count t → length (message_row k) ≤ 13
  unfolding message_row tens
  message_few k l = row_few _ _ 5 (fields_more 3 k [] 0 (omega (arith, messages_few table accepted)) no_fields)

  share_few : length (share_row (share t)) ≤ 10
  unfolding share_row tens
  share_few = row_few _ _ 4 (fields_more 2 (share t) [] 0 (omega (arith, share_most table accepted)) no_fields)

  pub listing_few : length (listing t) ≤ 80000
  unfolding listing
  listing_few =
      let holds : List ℕ = rows (λ k. hold_row k (holder_line t k)) (process_count t) in
      let checkpoints : List ℕ = each checkpoint_row (kept_checkpoints t) in
      let messages : List ℕ = each message_row (kept_messages t) in
      let a : length holds ≤ 168 * process_count t = rows_most (λ k. hold_row k (holder_line t k)) 168 (process_count t) hold_few in
      let b : length checkpoints ≤ 19 * length (kept_checkpoints t) =
      each_few checkpoint_row (record { process = 0; number = 0 }) (kept_checkpoints t) 19 (λ i l. checkpoint_few _ (listed_at (kept_checkpoints t) i _ l)) in
      let c : length messages ≤ 13 * length (kept_messages t) =
      each_few message_row 0 (kept_messages t) 13 (λ i l. message_few _ ((messages_listed t _).0 (listed_at (kept_messages t) i 0 l)).0) in
      omega (
        arith,
        line_few,
        share_few,
        processes_few table accepted,
        (kept_few table accepted).0,
        (kept_few table accepted).1,
        length-append (line_row (recovery_line t)) (holds ++ (checkpoints ++ (messages ++ share_row (share t)))),
        length-append holds (checkpoints ++ (messages ++ share_row (share t))),
        length-append checkpoints (messages ++ share_row (share t)),
        length-append messages (share_row (share t)),
      )

pub refused_few : (n : ℕ) → n < 4294967296 → length (refused_row n) ≤ 80000
unfolding refused_row tens
refused_few n l =
    let few : length (refused_row n) ≤ 19 = row_few _ _ 11 (fields_more 9 n [] 0 (omega (arith, l)) no_fields) in
    omega arith

-- the listing of any bytes
pub text_few : (table : List ℕ) → table_refusal table < 4294967296 → length (listing_of table) ≤ 80000
unfolding listing_of listing_unless
text_few table small = go (table_refusal table) refl where
  go : (r : ℕ) → table_refusal table ≡ r → length (listing_unless (table_refusal table) (listing (decode table))) ≤ 80000
  go zero e = rw e (listing_few table e)
  go (suc n) e = rw e (refused_few (suc n) (omega (arith, e)))
