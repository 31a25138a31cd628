-- Of the code: marks as bits. State y of process p has the bit first p + y, where first p is the number of states of
-- the processes before p; bit b of a buffer is bit b % 8 of its byte b / 8. Assumes nothing.
use Rattle.std.specs.Prelude.{Bool, cond, true, List, ◌≡◌, ℕ, zero, suc, ◌+◌, ◌*◌, ◌/◌, ◌%◌}
use Rattle.std.specs.Prelude.{◌^◌, ◌≤◌, ◌<◌, get_or, length, set}
use Rattle.std.specs.Int.Bits.{bit_or}
use Rattle.process_set.specs.Sets.{member}
use Rattle.tables.specs.Lists.{sum, tabulate}
use Rattle.tables.specs.Table.{Table, most_checkpoints, most_processes}

-- The first bit of process p, by the counts: each process before it has its checkpoints and its new state.
unfoldable pub first_bit : List ℕ → ℕ → ℕ
first_bit counts p = sum (tabulate p (λ q. suc (get_or counts q 0)))

-- No run has more: each of the most processes with the most checkpoints and its new state.
abbrev pub most_bits : ℕ
most_bits = most_processes * (most_checkpoints + 1)

-- Bit b of a buffer is set.
unfoldable pub bit_at : List ℕ → ℕ → Bool
bit_at buffer b = member (get_or buffer (b / 8) 0) (b % 8)

-- The bit of state y of process p is set.
unfoldable pub marked_in : Table → List ℕ → ℕ → ℕ → Bool
marked_in t buffer p y = bit_at buffer (first_bit t.counts p + y)

-- How many of the first n bits are not set.
unfoldable pub unset : List ℕ → ℕ → ℕ
unset buffer zero = 0
unset buffer (suc n) = unset buffer n + cond (bit_at buffer n) 0 1

-- A buffer with bit b set.
unfoldable pub with_bit : List ℕ → ℕ → List ℕ
with_bit buffer b = set buffer (b / 8) (bit_or (get_or buffer (b / 8) 0) (2 ^ (b % 8)))

-- Of the bits from one on, before an end, those behind a set one are set.
pub record Onwards (from end : ℕ) (buffer : List ℕ) : Type 0 where
  pub next : (b : ℕ) → from ≤ b → suc b < end → bit_at buffer b ≡ true → bit_at buffer (suc b) ≡ true

-- The bits from one on, before an end, are set, and the others are as they were.
pub record SetFrom (from end : ℕ) (before after : List ℕ) : Type 0 where
  pub same_length : length after ≡ length before
  pub all_set : (b : ℕ) → from ≤ b → b < end → bit_at after b ≡ true
  pub others : (b : ℕ) → (from ≤ b → end ≤ b) → bit_at after b ≡ bit_at before b
  pub beyond : (i : ℕ) → end ≤ 8 * i → get_or after i 0 ≡ get_or before i 0
