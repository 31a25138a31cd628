-- Sets of processes as numbers: process p is in a set where bit p of the number is 1.
-- Assumes nothing.
use Rattle.std.specs.Prelude.{ℕ, ◌/◌, ◌%◌, ◌^◌, Bool, ◌&&◌, List, eqb, leb, get_or, length}
use Rattle.tables.specs.Lists.{any_below}

-- Process p is in the set: bit p of the number is 1.
unfoldable pub member : ℕ → ℕ → Bool
member set p = eqb (set / 2 ^ p % 2) 1

-- Check 12: one of the 32 bits, at n or above, is set.
unfoldable pub high_bit : ℕ → ℕ → Bool
high_bit set n = any_below 32 (λ p. leb n p && member set p)

-- Check 12 of a list of sets: one of them has a bit at n or above.
unfoldable pub some_high_bit : List ℕ → ℕ → Bool
some_high_bit sets n = any_below (length sets) (λ k. high_bit (get_or sets k 0) n)

-- The set of all 32 processes.
unfoldable pub all_processes : ℕ
all_processes = 4294967295
