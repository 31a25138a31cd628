-- Of the code: writers of text. Assumes nothing.
use Rattle.std.specs.Prelude.{List, ℕ, ◌+◌, length}
use denote.Ref.{MutBor, at_last}
use Rattle.text_writer.specs.Text.{overlay}
use Rattle.text_writer.specs.declared.TextWriter.{TextWriter}

-- A writer over a lent buffer, at a place.
abbrev pub standing : MutBor (List ℕ) → ℕ → TextWriter
standing text at = record { text = text; at = at }

-- A writer that has put text: the same loan, with the text laid over the buffer, and the place after it.
abbrev pub written : TextWriter → List ℕ → TextWriter
written w text = record {
  text = at_last w.text (overlay w.text.now w.at text);
  at = w.at + length text;
}
