-- What a call yields, and what it leaves in what was lent (docs/MANUAL.md, "Refusals"). Assumes nothing.
use Rattle.std.specs.Prelude.{List, [], ◌∷◌, ◌++◌, ◌≡◌, ℕ, zero, suc, ltb, length, drop}
use Rattle.tables.specs.Checks.{Check, first_caught}

-- A call is refused, by the number of a check, or answers with bytes.
pub data Answer : Type 0 where
  refused : ℕ → Answer
  answered : List ℕ → Answer

-- A refusal of 0 is none.
unfoldable pub unless : ℕ → List ℕ → Answer
unless zero bytes = answered bytes
unless (suc n) bytes = refused (suc n)

-- The answer of a call: its checks, in checking order, and at last 16, that the answer buffer is shorter
-- than the answer.
unfoldable pub answer : List Check → List ℕ → ℕ → Answer
answer checks bytes room =
    unless (first_caught (checks ++ (record { caught = ltb room (length bytes); number = 16 } ∷ []))) bytes

-- The number returned: 0, or the refusal's.
unfoldable pub number_of : Answer → ℕ
number_of (refused n) = n
number_of (answered bytes) = 0

-- The answer buffer afterwards: unchanged; or the answer, and then what was there.
unfoldable pub buffer_after : Answer → List ℕ → List ℕ
buffer_after (refused n) before = before
buffer_after (answered bytes) before = bytes ++ drop (length bytes) before

-- The length's place afterwards: unchanged; or the length of the answer.
unfoldable pub length_after : Answer → ℕ → ℕ
length_after (refused n) before = before
length_after (answered bytes) before = length bytes

-- A call yields an answer: the number it returns, and the final contents of the answer buffer and of the
-- length's place.
pub record Yields (a : Answer) (number : ℕ) (buffer buffer' : List ℕ) (written written' : ℕ) : Type 0 where
  pub number_is : number ≡ number_of a
  pub buffer_is : buffer' ≡ buffer_after a buffer
  pub length_is : written' ≡ length_after a written
