-- Of the code: what n lines say is kept, the line of holder k being `line k`. The laws join these to the keep sheet
-- of a table. Assumes nothing.
use Rattle.std.specs.Prelude.{Bool, ◌||◌, List, map, Option, Some, None}
use Rattle.std.specs.Prelude.{◌≡◌, ℕ, zero, suc, ◌<◌, min, eqb}
use Rattle.consistency.specs.Lines.{Line}
use Rattle.holder_lines.specs.Scratch.{HoldsLines, lines_in}
use Rattle.keep_sheet.specs.Sheet.{Checkpoint, crosses}
use Rattle.tables.specs.Arrays.{array_of}
use Rattle.tables.specs.Format.{count_at, message_at, process_at}
use Rattle.tables.specs.Lists.{First, any_below, rows, select, tabulate}
use Rattle.tables.specs.Parts.{MessageThere}
use Rattle.tables.specs.Table.{Message}

-- Some line has checkpoint c at process i.
unfoldable pub shows : ℕ → (ℕ → Line) → ℕ → ℕ → Bool
shows n line i c = any_below n (λ k. eqb (line k i) c)

-- The first number from a start on, below a limit, that passes a test, where there is one.
abbrev pub FirstBelow : (ℕ → Bool) → ℕ → ℕ → Option ℕ → Type 0
FirstBelow test from limit None = First test from limit limit
FirstBelow test from limit (Some c) = First test from limit c × (c < limit)

-- The checkpoints of process i below a count that some line has, by number, rising.
unfoldable pub kept_of : ℕ → (ℕ → Line) → ℕ → ℕ → List ℕ
kept_of n line i count = select (shows n line i) count

-- The checkpoints of process i that have these numbers.
unfoldable pub checkpoints_at : ℕ → List ℕ → List Checkpoint
checkpoints_at i checkpoints = map (λ c. record { process = i; number = c }) checkpoints

-- The kept checkpoints of n processes, from a part of their counts.
unfoldable pub checkpoints_of : ℕ → (ℕ → Line) → List ℕ → List Checkpoint
checkpoints_of n line counts = rows (λ i. checkpoints_at i (kept_of n line i (count_at counts i))) n

-- The least of n numbers of 16 bits; 65,535 where n is 0.
unfoldable pub least_below : ℕ → (ℕ → ℕ) → ℕ
least_below zero f = 65535
least_below (suc n) f = min (f n) (least_below n f)

-- The least number that any of n lines has at process i.
unfoldable pub lowest_at : ℕ → (ℕ → Line) → Line
lowest_at n line i = least_below n (λ k. line k i)

-- The lowest line: these numbers of n processes, as an array.
unfoldable pub lowest_line : ℕ → (ℕ → Line) → List ℕ
lowest_line n line = array_of (tabulate n (lowest_at n line))

-- A message crosses some line.
unfoldable pub crosses_line : ℕ → (ℕ → Line) → Message → Bool
crosses_line n line m = any_below n (λ k. crosses (line k) m)

-- A message is undelivered or crosses some line.
unfoldable pub is_kept : ℕ → (ℕ → Line) → Message → Bool
is_kept n line m = eqb m.received 0 || crosses_line n line m

-- The positions of the kept messages among the m messages of a part of sends and a part of receipts, rising.
unfoldable pub positions_of : ℕ → (ℕ → Line) → List ℕ → List ℕ → ℕ → List ℕ
positions_of n line sends receipts m = select (λ k. is_kept n line (message_at sends receipts k)) m

-- Message k of a part of sends and a part of receipts, and the lowest line's number at its receiver.
pub record MessageBeside (n lowest k : ℕ) (scratch sends receipts : List ℕ) : Type 0 where
  pub holds : HoldsLines n scratch
  pub there : MessageThere n k sends receipts
  pub lowest_is : lowest ≡ lowest_at n (lines_in scratch n) (process_at receipts k)
