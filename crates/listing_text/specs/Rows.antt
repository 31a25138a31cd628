-- Of the code: the rows of a listing, from what the calls left in a scratch and in a sheet's bytes. Assumes nothing.
use Rattle.std.specs.Prelude.{List, ◌≡◌, ℕ, ◌+◌, ◌*◌, length, take, drop}
use Rattle.keep_sheet.specs.Sheet.{Checkpoint, sheet}
use Rattle.consistency.specs.Ceilings.{holder_lines}
use Rattle.listings.specs.Listing.{checkpoint_row, hold_row, message_row}
use Rattle.tables.specs.Lists.{rows}
use Rattle.tables.specs.Numbers.{u16_at}
use Rattle.tables.specs.Table.{Table, process_count}

-- What the call for a keep sheet leaves: the lines of single holders at the front of a scratch, and the sheet at the
-- front of bytes.
pub record Answered (t : Table) (scratch bytes : List ℕ) : Type 0 where
  pub lines_are : take (process_count t * process_count t) scratch ≡ holder_lines t
  pub sheet_is : take (length (sheet t)) bytes ≡ sheet t

-- Line k of a scratch that begins with n lines of n numbers each.
unfoldable pub line_at : List ℕ → ℕ → ℕ → List ℕ
line_at scratch n k = take n (drop (n * k) scratch)

unfoldable pub hold_rows : List ℕ → ℕ → List ℕ
hold_rows scratch n = rows (λ k. hold_row k (line_at scratch n k)) n

-- Entry e of the two arrays of a sheet of k checkpoints.
unfoldable pub checkpoint_at : List ℕ → ℕ → ℕ → Checkpoint
checkpoint_at sheet k e = record { process = u16_at sheet (4 + 2 * e); number = u16_at sheet (4 + 2 * k + 2 * e) }

unfoldable pub checkpoint_rows : List ℕ → ℕ → List ℕ
checkpoint_rows sheet k = rows (λ e. checkpoint_row (checkpoint_at sheet k e)) k

-- The q positions of a sheet of k checkpoints.
unfoldable pub message_rows : List ℕ → ℕ → ℕ → List ℕ
message_rows sheet k q = rows (λ e. message_row (u16_at sheet (4 + 4 * k + 2 * e))) q
