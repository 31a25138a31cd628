-- The lent buffer of the marks (docs/MANUAL.md, "The same line by marking"): one bit a state, new states included.
-- Assumes nothing.
use Rattle.std.specs.Prelude.{List, ◌++◌, ℕ, ◌+◌, ◌/◌, drop, replicate}
use Rattle.tables.specs.Table.{Table, checkpoint_total, process_count}

-- The bytes that the marks of a run take: (sum of counts + N) / 8, rounded up.
unfoldable pub marks_size : Table → ℕ
marks_size t = (checkpoint_total t + process_count t + 7) / 8

-- A buffer, of so many bytes at least, whose first bytes are 0; those beyond keep their values.
unfoldable pub cleared : ℕ → List ℕ → List ℕ
cleared size buffer = replicate size 0 ++ drop size buffer
