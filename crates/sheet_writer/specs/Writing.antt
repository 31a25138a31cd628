-- Of the code: numbers that are put into a buffer. Assumes nothing.
use Rattle.std.specs.Prelude.{List, ◌≡◌, ℕ, ◌+◌, ◌*◌, length}
use Rattle.tables.specs.Numbers.{put_at, u16s}

-- Numbers were put from a place on, the rest of the buffer is as it was, and the next place follows the last number.
pub record Put (before after : List ℕ) (at : ℕ) (numbers : List ℕ) (next : ℕ) : Type 0 where
  pub contents : after ≡ put_at before at (u16s numbers)
  pub place : next ≡ at + 2 * length numbers
