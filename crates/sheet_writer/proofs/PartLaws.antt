-- The parts of the keep sheet, put one after another.
--     sizes_are, column_is, positions_are    the numbers that the code puts of a part are the part's
--     begun, sized, .. , filled        the sheet's writer, before the first part and after each
--     can-..                           each part can be put
--     sheet_put, same_size             what the last writer leaves is the sheet
-- Assumes nothing.
use mathlib.Core.List.{List, [], ◌∷◌, ◌++◌, map, map-map}
use mathlib.Core.Path.{◌≡◌, sym, ap, ◌∙◌}
use Prim.Native.Nat.{ℕ, ◌+◌, ◌*◌, ◌≤◌}
use native.Mathlib.Omega.{arith}
use denote.Ref.{MutBor}
use lib.ListN.{length, length-append}
use Rattle.holder_lines.specs.Scratch.{LinesOf, lines_in}
use Rattle.keep_sheet.proofs.FewLaws.{sheet-length}
use Rattle.keep_sheet.specs.Sheet.{Checkpoint, sheet}
use Rattle.tables.proofs.ListLaws.{map_rows, rows_ext}
use Rattle.tables.proofs.NumberLaws.{length-u16s}
use Rattle.tables.proofs.ReadLaws.{ReadMessages}
use Rattle.tables.specs.Format.{count_at, counts_part, decode}
use Rattle.tables.specs.Numbers.{put_at, u16s}
use Rattle.tables.specs.Table.{Table, process_count}
use Rattle.sheet_entries.proofs.FoundLaws.{checkpoints_found, positions_found}
use Rattle.sheet_entries.specs.Kept.{checkpoints_at, checkpoints_of, kept_of, positions_of}
use Rattle.sheet_writer.proofs.PutLaws.{put_length, put_room, put_then, put_written}
use Rattle.sheet_writer.specs.SheetParts.{CanPut, CanPutSheet, column_at, column_of, number_in, numbers_of}
use Rattle.sheet_writer.specs.Writing.{Put}
use Rattle.sheet_writer.specs.Writers.{standing, written}
use Rattle.sheet_writer.specs.declared.writer.SheetWriter.{SheetWriter}
use Rattle.sheet_writer.specs.declared.writing.Column.{Column}
use Rattle.sheet_writer.specs.declared.writing.Column.TheVariants.{Number, Process}
use Rattle.sheet_writer.specs.declared.writing.Part.{Part}
use Rattle.sheet_writer.specs.declared.writing.Part.TheVariants.{Kept, Positions, Sizes}

-- ---- one part
-- the numbers that the code puts are the part's
pub sizes_are : {part : Part} {k q : ℕ} → part ≡ Sizes k q → (t : Table) → k ∷ q ∷ [] ≡ numbers_of part t
unfolding numbers_of
sizes_are e t = rw e

module _ {part : Part} {bytes s : List ℕ} (given : LinesOf bytes s) {n : ℕ} (n_is : n ≡ process_count (decode bytes)) where
  pub column_is : {counts : List ℕ} → counts ≡ counts_part bytes → {column : Column} → part ≡ Kept column
      → column_of column n (lines_in s n) counts ≡ numbers_of part (decode bytes)
  unfolding column_of column_at checkpoints_of checkpoints_at numbers_of
  column_is {counts} counts_are {column} e =
      let number : Checkpoint → ℕ = λ k. number_in column k.process k.number in
      rows_ext _ _ n (λ i _. sym (map-map number (λ c. record { process = i; number = c }) (kept_of n (lines_in s n) i (count_at counts i))))
      ∙ sym (map_rows number _ n) ∙ ap (map number) (checkpoints_found given n_is counts_are)
      ∙ sym (ap (λ (x : Part). numbers_of x (decode bytes)) e)

  pub positions_are : {m : ℕ} {sends receipts : List ℕ} → ReadMessages bytes m sends receipts → part ≡ Positions
      → positions_of n (lines_in s n) sends receipts m ≡ numbers_of part (decode bytes)
  unfolding numbers_of
  positions_are read e = positions_found given n_is read ∙ rw e

-- ---- all parts
module _ (bytes : List ℕ) (k q : ℕ) (x : MutBor (List ℕ)) where
  abbrev of : Part → List ℕ
  of part = numbers_of part (decode bytes)

  abbrev pub begun : SheetWriter
  begun = standing x 0

  abbrev pub sized : SheetWriter
  sized = written begun (of (Sizes k q))

  abbrev pub processed : SheetWriter
  processed = written sized (of (Kept Process))

  abbrev pub numbered : SheetWriter
  numbered = written processed (of (Kept Number))

  abbrev pub filled : SheetWriter
  filled = written numbered (of Positions)

  -- the numbers of the last parts, and of all
  abbrev last_two : List ℕ
  last_two = of (Kept Number) ++ of Positions

  abbrev last_three : List ℕ
  last_three = of (Kept Process) ++ last_two

  abbrev all_four : List ℕ
  all_four = of (Sizes k q) ++ last_three

  module _ (asked : CanPutSheet bytes k q x.now) where
    parts_are : u16s all_four ≡ sheet (decode bytes)
    unfolding sheet numbers_of
    parts_are = rw (asked.kept_is, asked.logged_is)

    fits_four : 0 + 2 * length all_four ≤ length x.now
    fits_four = omega (arith, asked.room, length-u16s all_four, ap length parts_are, sheet-length (decode bytes))

    fits_three : sized.at + 2 * length last_three ≤ length sized.buffer.now
    fits_three = put_room (put_written begun (of (Sizes k q))) last_three fits_four

    fits_two : processed.at + 2 * length last_two ≤ length processed.buffer.now
    fits_two = put_room (put_written sized (of (Kept Process))) last_two fits_three

    fits_one : numbered.at + 2 * length (of Positions) ≤ length numbered.buffer.now
    fits_one = put_room (put_written processed (of (Kept Number))) (of Positions) fits_two

    pub can_sizes : CanPut (Sizes k q) bytes begun.at begun.buffer.now
    can_sizes = omega (arith, fits_four, length-append (of (Sizes k q)) last_three)

    pub can_processes : CanPut (Kept Process) bytes sized.at sized.buffer.now
    can_processes = omega (arith, fits_three, length-append (of (Kept Process)) last_two)

    pub can_checkpoints : CanPut (Kept Number) bytes processed.at processed.buffer.now
    can_checkpoints = omega (arith, fits_two, length-append (of (Kept Number)) (of Positions))

    pub can_positions : CanPut Positions bytes numbered.at numbered.buffer.now
    can_positions = fits_one

    all_put : Put x.now filled.buffer.now 0 all_four filled.at
    all_put =
        let last-put = put_then (put_written processed (of (Kept Number))) (put_written numbered (of Positions)) fits_two in
        put_then (put_written begun (of (Sizes k q))) (put_then (put_written sized (of (Kept Process))) last-put fits_three) fits_four

    pub sheet_put : filled.buffer.now ≡ put_at x.now 0 (sheet (decode bytes))
    sheet_put = all_put.contents ∙ ap (put_at x.now 0) parts_are

    pub same_size : length filled.buffer.now ≡ length x.now
    same_size = put_length all_put fits_four

-- ---- the writers, as the code hands them on: each is what the one before it becomes
module _ (bytes : List ℕ) (k q : ℕ) (x : MutBor (List ℕ)) (asked : CanPutSheet bytes k q x.now) where
  module _ (w₁ : SheetWriter) (e₁ : w₁ ≡ sized bytes k q x) where
    pub processes_next : CanPut (Kept Process) bytes w₁.at w₁.buffer.now
    processes_next = rw e₁ (can_processes bytes k q x asked)

    module _ (w₂ : SheetWriter) (e₂ : w₂ ≡ written w₁ (numbers_of (Kept Process) (decode bytes))) where
      after_processes : w₂ ≡ processed bytes k q x
      after_processes = e₂ ∙ ap (λ (w : SheetWriter). written w (numbers_of (Kept Process) (decode bytes))) e₁

      pub checkpoints_next : CanPut (Kept Number) bytes w₂.at w₂.buffer.now
      checkpoints_next = rw after_processes (can_checkpoints bytes k q x asked)

      module _ (w₃ : SheetWriter) (e₃ : w₃ ≡ written w₂ (numbers_of (Kept Number) (decode bytes))) where
        after_checkpoints : w₃ ≡ numbered bytes k q x
        after_checkpoints = e₃ ∙ ap (λ (w : SheetWriter). written w (numbers_of (Kept Number) (decode bytes))) after_processes

        pub positions_next : CanPut Positions bytes w₃.at w₃.buffer.now
        positions_next = rw after_checkpoints (can_positions bytes k q x asked)

        -- what the last writer leaves is the sheet
        pub sheet_left : (w₄ : SheetWriter) → w₄ ≡ written w₃ (numbers_of Positions (decode bytes))
            → w₄.buffer.now ≡ put_at x.now 0 (sheet (decode bytes))
        sheet_left w₄ e₄ =
            ap (λ (w : SheetWriter). w.buffer.now) (e₄ ∙ ap (λ (w : SheetWriter). written w (numbers_of Positions (decode bytes))) after_checkpoints)
            ∙ sheet_put bytes k q x asked
