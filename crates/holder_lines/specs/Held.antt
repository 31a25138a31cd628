-- Of the code: the lines that a scratch holds. Assumes nothing.
use Rattle.std.specs.Prelude.{ℕ}
use Rattle.consistency.specs.Lines.{Line}
use Rattle.holder_lines.specs.Scratch.{lines_in}
use Rattle.holder_lines.specs.declared.scratch.HeldLines.{HeldLines}

-- Line k.
abbrev pub line_held : HeldLines → ℕ → Line
line_held lines = lines_in lines.numbers.now lines.n
