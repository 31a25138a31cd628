-- Of the code: writers of a keep sheet. Assumes nothing.
use Rattle.std.specs.Prelude.{List, ℕ, ◌+◌, ◌*◌, length}
use denote.Ref.{MutBor, at_last}
use Rattle.sheet_writer.specs.declared.writer.SheetWriter.{SheetWriter}
use Rattle.tables.specs.Numbers.{put_at, u16s}

-- A writer over a lent buffer, at a place.
abbrev pub standing : MutBor (List ℕ) → ℕ → SheetWriter
standing buffer at = record { buffer = buffer; at = at }

-- A writer that has put numbers: the same loan, with the numbers in the buffer, and the place after the last.
abbrev pub written : SheetWriter → List ℕ → SheetWriter
written w numbers = record {
  buffer = at_last w.buffer (put_at w.buffer.now w.at (u16s numbers));
  at = w.at + 2 * length numbers;
}
