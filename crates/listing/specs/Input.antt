-- The listing of what stands on standard input (docs/MANUAL.md, "The listing"). Assumes nothing.
use Rattle.std.specs.Prelude.{List, ◌≡◌, ℕ, ◌≤◌, length, take}
use Rattle.listings.specs.Listing.{listing_of}

-- A list has a front of n bytes.
abbrev pub IsPrefixLen : ℕ → List ℕ → Type 0
IsPrefixLen n xs = (n ≤ length xs) × (n ≡ length (take n xs))

-- A text is the listing of every input that can have been read so: the first `len` bytes of a buffer are as much of the
-- input as the buffer has room for, or all of it.
abbrev pub ListsInput : List ℕ → ℕ → List ℕ → Type 0
ListsInput buffer len text =
    (input : List ℕ) → take len buffer ≡ take (length buffer) input → text ≡ listing_of input
