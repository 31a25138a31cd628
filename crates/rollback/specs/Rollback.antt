-- Of the code: what a rollback is given, and a receipt number beside a line. Assumes nothing.
use Rattle.std.specs.Prelude.{cond, List, ◌≡◌, ℕ, ltb}
use Rattle.consistency.specs.Ceilings.{recovery_line}
use Rattle.tables.specs.Arrays.{array_of}
use Rattle.tables.specs.Checks.{table_refusal}
use Rattle.tables.specs.Format.{decode}

-- An accepted table, and its recovery line as an array.
pub record AtLine (table line : List ℕ) : Type 0 where
  pub accepted : table_refusal table ≡ 0
  pub line_is : line ≡ array_of (recovery_line (decode table))

-- The number that a receipt is left with, where the line has a height at its receiver: 0 where it is after the line.
unfoldable pub receipt_left : ℕ → ℕ → ℕ
receipt_left height received = cond (ltb height received) 0 received
