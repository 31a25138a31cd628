-- Of the code: numbers of processes, counts or a line, as an array of 32; a list that is filled from the front.
-- Assumes nothing.
use Rattle.std.specs.Prelude.{List, ◌≡◌, ℕ, ◌≤◌, ◌<◌, get_or, length}
use Rattle.tables.specs.Lists.{tabulate}

-- An array of 32 numbers that begins with a list; what stands behind it is 0.
unfoldable pub array_of : List ℕ → List ℕ
array_of l = tabulate 32 (λ p. get_or l p 0)

-- The first n entries of a list are those of f, and the others are as they were.
pub record Filled (f : ℕ → ℕ) (n : ℕ) (before after : List ℕ) : Type 0 where
  pub same_length : length after ≡ length before
  pub front : (i : ℕ) → i < n → i < length before → get_or after i 0 ≡ f i
  pub rest : (i : ℕ) → n ≤ i → get_or after i 0 ≡ get_or before i 0
