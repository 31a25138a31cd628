-- What is written to a buffer, and what a test says of one. A place beyond the end is left out. Assumes nothing.
use Rattle.std.specs.Prelude.{Bool, true, false, List, ◌≡◌, length, get_or, set}
use Rattle.std.specs.Prelude.{ℕ, zero, suc, ◌+◌, ◌*◌, ◌/◌, ◌%◌, ◌≤◌, ◌<◌}

-- A 16-bit number at a place, low byte first.
unfoldable pub with_number : List ℕ → ℕ → ℕ → List ℕ
with_number buffer at value = set (set buffer at (value % 256)) (at + 1) (value / 256 % 256)

-- The answer of a search, from one place to another, for where the bytes of a value end.
pub record ValuesEnd (buffer : List ℕ) (from to value end : ℕ) : Type 0 where
  pub past : from ≤ end
  pub within : from ≤ to → end ≤ to
  pub same : (i : ℕ) → from ≤ i → i < end → i < length buffer → get_or buffer i 0 ≡ value
  pub stopped : end < to → end < length buffer → get_or buffer end 0 ≡ value → ⊥

-- The answer of a test whether every byte from one place to another has a value.
pub record AllAre (buffer : List ℕ) (from to value : ℕ) (answer : Bool) : Type 0 where
  pub all : answer ≡ true → (i : ℕ) → from ≤ i → i < to → i < length buffer
      → get_or buffer i 0 ≡ value
  pub another : answer ≡ false
      → (i : ℕ) × (from ≤ i) × (i < to) × (i < length buffer) × (get_or buffer i 0 ≡ value → ⊥)

-- A checksum of the first n bytes.
unfoldable pub checksum_of : List ℕ → ℕ → ℕ
checksum_of bytes zero = 0
checksum_of bytes (suc n) = (31 * checksum_of bytes n + get_or bytes n 0) % 1000003
