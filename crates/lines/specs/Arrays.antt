-- Of the code: how high a process may stand, as it is read off a table's part of counts. Assumes nothing.
use Rattle.std.specs.Prelude.{List, cond, ℕ, ◌-◌, ltb}
use Rattle.process_set.specs.Sets.{member}
use Rattle.tables.specs.Format.{count_at}

-- How high a process may stand for a set, from a part of n counts: at its last checkpoint where it holds, and else at
-- its virtual one. It is 0 from n on.
unfoldable pub height_at : ℕ → ℕ → List ℕ → ℕ → ℕ
height_at n set counts p = cond (ltb p n) (cond (member set p) (count_at counts p - 1) (count_at counts p)) 0
