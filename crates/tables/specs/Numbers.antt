-- Numbers in bytes, each of w bytes, low byte first. Assumes nothing.
use Rattle.std.specs.Prelude.{List, [], ◌∷◌, ◌++◌, ℕ, zero, suc, ◌+◌, ◌*◌, ◌/◌, ◌%◌, length}
use Rattle.std.specs.Prelude.{get_or, take, drop}

-- The unsigned number of w bytes at byte `at`. What stands beyond the end is 0.
unfoldable pub number_at : ℕ → List ℕ → ℕ → ℕ
number_at zero bytes at = 0
number_at (suc w) bytes at = get_or bytes at 0 + 256 * number_at w bytes (at + 1)

-- The w low bytes of a number.
unfoldable pub bytes_of : ℕ → ℕ → List ℕ
bytes_of zero n = []
bytes_of (suc w) n = n % 256 ∷ bytes_of w (n / 256)

-- The bytes of numbers, one after another.
unfoldable pub bytes_of_all : ℕ → List ℕ → List ℕ
bytes_of_all w [] = []
bytes_of_all w (n ∷ rest) = bytes_of w n ++ bytes_of_all w rest

-- Numbers of 16 bits: two bytes each.
abbrev pub u16_at : List ℕ → ℕ → ℕ
u16_at = number_at 2

abbrev pub u16_bytes : ℕ → List ℕ
u16_bytes = bytes_of 2

abbrev pub u16s : List ℕ → List ℕ
u16s = bytes_of_all 2

-- Numbers of 32 bits: four bytes each.
abbrev pub u32_at : List ℕ → ℕ → ℕ
u32_at = number_at 4

abbrev pub u32_bytes : ℕ → List ℕ
u32_bytes = bytes_of 4

abbrev pub u32s : List ℕ → List ℕ
u32s = bytes_of_all 4

-- Bytes put into a buffer from a place on; the rest is as it was.
unfoldable pub put_at : List ℕ → ℕ → List ℕ → List ℕ
put_at buffer at bytes = take at buffer ++ (bytes ++ drop (at + length bytes) buffer)
