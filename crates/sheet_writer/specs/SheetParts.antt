-- Of the code: the parts of a keep sheet, as its writer puts them.
-- Assumes nothing.
use Rattle.std.specs.Prelude.{List, [], ◌∷◌, map, ◌≡◌, ℕ, ◌+◌, ◌*◌, ◌≤◌, length}
use Rattle.consistency.specs.Lines.{Line}
use Rattle.keep_sheet.specs.Sheet.{kept_checkpoints, kept_messages}
use Rattle.sheet_entries.specs.Kept.{kept_of}
use Rattle.sheet_writer.specs.declared.writing.Column.{Column}
use Rattle.sheet_writer.specs.declared.writing.Column.TheVariants.{Number, Process}
use Rattle.sheet_writer.specs.declared.writing.Part.{Part}
use Rattle.sheet_writer.specs.declared.writing.Part.TheVariants.{Kept, Positions, Sizes}
use Rattle.tables.specs.Format.{count_at, decode}
use Rattle.tables.specs.Lists.{rows}
use Rattle.tables.specs.Table.{Table}

-- What one array of the sheet has of checkpoint c of process i.
abbrev pub number_in : Column → ℕ → ℕ → ℕ
number_in Process i c = i
number_in Number i c = c

-- The numbers of a part: K and Q as given; the processes or the numbers of the kept checkpoints; the positions of the
-- kept messages.
unfoldable pub numbers_of : Part → Table → List ℕ
numbers_of (Sizes kept logged) t = kept ∷ logged ∷ []
numbers_of (Kept column) t = map (λ k. number_in column k.process k.number) (kept_checkpoints t)
numbers_of Positions t = kept_messages t

-- One array, of the checkpoints of process i that have these numbers; and of all that lines say are kept of n
-- processes, from a part of their counts.
unfoldable pub column_at : Column → ℕ → List ℕ → List ℕ
column_at column i kept = map (number_in column i) kept

unfoldable pub column_of : Column → ℕ → (ℕ → Line) → List ℕ → List ℕ
column_of column n line counts = rows (λ i. column_at column i (kept_of n line i (count_at counts i))) n

-- A part of the sheet of an accepted table can be put, given the lines of its single holders: the buffer has room for
-- it from a place on.
abbrev pub CanPut : Part → List ℕ → ℕ → List ℕ → Type 0
CanPut part table at buffer = at + 2 * length (numbers_of part (decode table)) ≤ length buffer

-- The sheet can be put, given the same: K and Q are known, and the buffer has room for all of it.
pub record CanPutSheet (table : List ℕ) (kept logged : ℕ) (buffer : List ℕ) : Type 0 where
  pub kept_is : kept ≡ length (kept_checkpoints (decode table))
  pub logged_is : logged ≡ length (kept_messages (decode table))
  pub room : 4 + 4 * length (kept_checkpoints (decode table)) + 2 * length (kept_messages (decode table))
      ≤ length buffer
