-- Ceilings; the ceiling of processes that do not checkpoint (that hold), their line, the recovery line, and the lines
-- of single holders. Assumes nothing.
use Rattle.std.specs.Prelude.{Bool, cond, true, List, ◌≡◌, ℕ, zero, suc, ◌-◌, min, eqb, ltb, length}
use Rattle.consistency.specs.Lines.{AtOrBelow, Line, as_line}
use Rattle.consistency.specs.Lowering.{line_under}
use Rattle.tables.specs.Lists.{any_below, rows, tabulate}
use Rattle.tables.specs.Table.{Table, count_of, process_count}

-- A ceiling of a run, the ceilings of its processes in docs/MANUAL.md: a number for each process, the latest at which
-- it may stand. That is one of its checkpoints, or its count, for the virtual one. It is what checks 17 and 18 let
-- through.
pub record Ceiling (t : Table) (ceiling : List ℕ) : Type 0 where
  pub for_each : length ceiling ≡ process_count t
  pub within : AtOrBelow (as_line ceiling) (count_of t)

-- Check 18: one of the numbers is above the count of its process.
unfoldable pub above_counts : Table → List ℕ → Bool
above_counts t ceiling = any_below (process_count t) (λ p. ltb (count_of t p) (as_line ceiling p))

-- A set of processes: whether each holds.
abbrev pub Holders : Type 0
Holders = ℕ → Bool

-- The ceiling of a set. A holding process stands at no later than its last checkpoint, count − 1; any other may also
-- stand at its virtual checkpoint, numbered count.
unfoldable pub ceiling_of : Table → Holders → List ℕ
ceiling_of t holds = tabulate (process_count t) (λ p. cond (holds p) (count_of t p - 1) (count_of t p))

-- The line of a set: the latest consistent line under its ceiling.
unfoldable pub line_of : Table → Holders → List ℕ
line_of t holds = line_under t.messages (ceiling_of t holds)

-- The line of all processes is the recovery line of the run.
unfoldable pub recovery_line : Table → List ℕ
recovery_line t = line_of t (λ p. true)

-- The set of one process.
unfoldable pub single : ℕ → Holders
single k p = eqb p k

-- The line whose holding set is process k alone.
unfoldable pub holder_line : Table → ℕ → List ℕ
holder_line t k = line_of t (single k)

-- The N lines of single holders, each of N numbers, one after another: the line of process 0 first.
unfoldable pub holder_lines : Table → List ℕ
holder_lines t = rows (holder_line t) (process_count t)

-- The place-by-place minimum of a line and of the lines of a set's members below n. The line of a set is that of the
-- counts and of its members' lines: `line_smallest`.
unfoldable pub smallest : ℕ → Holders → (ℕ → Line) → Line → Line
smallest zero holds lines base p = base p
smallest (suc n) holds lines base p =
    cond (holds n) (min (lines n p) (smallest n holds lines base p)) (smallest n holds lines base p)
