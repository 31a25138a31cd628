-- What a call leaves in the guarded scratch. Assumes nothing.
use Rattle.std.specs.Prelude.{Bool, cond, not, ◌||◌, ℕ, ◌*◌, eqb, ltb}
use Rattle.tables.specs.Table.{most_processes}

-- The numbers of the guarded scratch.
abbrev pub scratch_size : ℕ
scratch_size = 1216

-- How many numbers of the scratch hold lines, of n processes, 32 at most: n of n numbers after a keep sheet, and after
-- the refusal of its buffer; none after another call.
unfoldable pub line_numbers : Bool → ℕ → ℕ → ℕ
line_numbers sheet number n =
    cond (not sheet || ltb most_processes n) 0 (cond (eqb number 0 || eqb number 16) (n * n) 0)
