-- A quotient as a whole number: the nearest, and on an exact half the even one (docs/MANUAL.md, "The listing"). The
-- divisor is above 0. Assumes nothing.
use Rattle.std.specs.Prelude.{cond, ◌≡◌, ℕ, ◌+◌, ◌*◌, ◌-◌, ◌/◌, ◌%◌, ◌≤◌, eqb, ltb}

-- How far apart two numbers are: `-` stops at 0, so that one of the two differences is 0.
unfoldable pub distance : ℕ → ℕ → ℕ
distance a b = (a - b) + (b - a)

-- A number is the quotient, rounded: no other is nearer to it, and where another is as near, this one is even. The
-- distances are taken times the divisor, so that they are whole.
pub record Rounded (dividend divisor n : ℕ) : Type 0 where
  pub nearest : (other : ℕ) → distance dividend (n * divisor) ≤ distance dividend (other * divisor)
  pub half_even : (other : ℕ) → (other ≡ n → ⊥)
      → distance dividend (other * divisor) ≡ distance dividend (n * divisor) → n % 2 ≡ 0

-- The even one of a number and the next.
unfoldable pub even_of : ℕ → ℕ
even_of n = cond (eqb (n % 2) 0) n (n + 1)

-- The quotient, rounded, computed by its remainder: less than half of the divisor, more than half, or just half.
unfoldable pub rounded_quotient : ℕ → ℕ → ℕ
rounded_quotient dividend divisor =
    cond (ltb (2 * (dividend % divisor)) divisor) (dividend / divisor)
    (cond (ltb divisor (2 * (dividend % divisor))) (dividend / divisor + 1) (even_of (dividend / divisor)))
