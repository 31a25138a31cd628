-- Of the code: lines in a scratch that begins with n lines of n numbers each, one after another. Assumes nothing.
use Rattle.std.specs.Prelude.{List, ◌≡◌, ℕ, ◌+◌, ◌*◌, ◌≤◌, get_or, length, take}
use Rattle.consistency.specs.Ceilings.{holder_lines}
use Rattle.consistency.specs.Lines.{Line}
use Rattle.tables.specs.Checks.{table_refusal}
use Rattle.tables.specs.Format.{decode}
use Rattle.tables.specs.Table.{most_processes, process_count}

-- A scratch that begins with n lines of n numbers, n being a number of processes.
pub record HoldsLines (n : ℕ) (scratch : List ℕ) : Type 0 where
  pub few : n ≤ most_processes
  pub room : n * n ≤ length scratch

-- Line k, by its number at process i.
unfoldable pub lines_in : List ℕ → ℕ → ℕ → Line
lines_in scratch n k i = get_or scratch (n * k + i) 0

-- An accepted table, and a scratch that begins with the lines of its single holders.
pub record LinesOf (table scratch : List ℕ) : Type 0 where
  pub accepted : table_refusal table ≡ 0
  pub lines : take (process_count (decode table) * process_count (decode table)) scratch ≡ holder_lines (decode table)
