-- Orphans and consistent lines (docs/MANUAL.md, "Lines"). Assumes nothing.
use Rattle.std.specs.Prelude.{List, ℕ, ◌≤◌, ◌<◌, get_or}
use Rattle.tables.specs.Table.{Message, no_message}

-- A line gives each process a number: a checkpoint, or its count for the virtual checkpoint, which stands for
-- what the process has become since its last one. It is 0 beyond the last process.
abbrev pub Line : Type 0
Line = ℕ → ℕ

-- A line that is written as a list.
abbrev pub as_line : List ℕ → Line
as_line l p = get_or l p 0

-- A message (j, y) to (i, r) is an orphan of a line where r is not 0, y is at or above the line at j, and r is at or
-- below it at i: it was received before the line and sent after it. An unsaved message, whose r is the count of i, was
-- received before a line just where that stands at the virtual checkpoint of i.
pub record Orphan (m : Message) (l : Line) : Type 0 where
  pub delivered : 0 < m.received
  pub sent_after : l m.sender ≤ m.sent
  pub received-before : m.received ≤ l m.receiver

-- A line without orphans is consistent.
abbrev pub Consistent : List Message → Line → Type 0
Consistent messages l = (k : ℕ) → Orphan (get_or messages k no_message) l → ⊥

-- One line is at or below another at every process.
abbrev pub AtOrBelow : Line → Line → Type 0
AtOrBelow l l' = (p : ℕ) → l p ≤ l' p

-- The latest consistent line under a ceiling: it is at or below the ceiling, consistent, and at or above every other
-- such line.
pub record Latest (messages : List Message) (ceiling l : Line) : Type 0 where
  pub under : AtOrBelow l ceiling
  pub consistent : Consistent messages l
  pub latest : (other : Line) → AtOrBelow other ceiling → Consistent messages other → AtOrBelow other l
