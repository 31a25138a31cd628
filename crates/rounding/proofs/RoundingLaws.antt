-- A rounded quotient: the nearest whole number, and on an exact half the even one.
--     below_rounded, above_rounded    the whole number below the quotient, or the next, by the remainder
--     quotient_rounded                what is computed is the quotient, rounded
--     rounded_once, rounded_most      no other number is; it is at most what the quotient is at most
-- Assumes nothing.
use mathlib.Core.Path.{◌≡◌, sym}
use Prim.Native.Nat.{ℕ, suc, ◌+◌, ◌*◌, ◌/◌, ◌%◌, ◌≤◌, ◌<◌}
use native.Mathlib.Decide.{dec_lt, ℕ_discrete}
use native.Mathlib.Nat.{le_antisymm, mod-add-div', mod-lt, mul-le-mul_right, suc-mul}
use native.Mathlib.Omega.{arith}
use borrow.Author.Tests.{eq-eqb, le-ltb, lt-ltb, ne_eqb}
use Rattle.rounding.specs.Rounding.{Rounded, distance, even_of, rounded_quotient}

module _ (dividend divisor : ℕ) where
  abbrev below : ℕ
  below = dividend / divisor

  abbrev twice : ℕ
  twice = 2 * (dividend % divisor)

  abbrev off : ℕ → ℕ
  off n = distance dividend (n * divisor)

  -- ---- distances: the multiples of the divisor are a divisor apart
  apart : {m n : ℕ} → m < n → m * divisor + divisor ≤ n * divisor
  apart {m = m} l = omega (arith, mul-le-mul_right divisor l, suc-mul m divisor)

  farther : (m n : ℕ) → (m ≡ n → ⊥) → divisor ≤ off m + off n
  unfolding distance
  farther m n ne = go (dec_lt m n) where
    go : Dec (m < n) → divisor ≤ off m + off n
    go (yes l) = omega (arith, apart l)
    go (no l) = omega (arith, apart {m = n} {n = m} (omega (arith, ne)))

  -- a number that is off by half of the divisor at most, and even where it is just half
  near_rounded : (n : ℕ) → 2 * off n ≤ divisor → (2 * off n ≡ divisor → n % 2 ≡ 0) → Rounded dividend divisor n
  near_rounded n near even = record {
    nearest = λ other. nearest other (ℕ_discrete other n);
    half_even = λ other ne e. even (omega (arith, near, e, farther other n ne));
  }
    where
      nearest : (other : ℕ) → Dec (other ≡ n) → off n ≤ off other
      nearest other (yes e) = rw e (omega arith)
      nearest other (no ne) = omega (arith, near, farther other n ne)

  pub below_rounded : twice ≤ divisor → (twice ≡ divisor → below % 2 ≡ 0) → Rounded dividend divisor below
  unfolding distance
  below_rounded near even = near_rounded below (omega (arith, near, is)) (λ e. even (omega (arith, e, is))) where
    is : 2 * off below ≡ twice
    is = omega (arith, mod-add-div' dividend divisor)

  module _ (some : 0 < divisor) where
    pub above_rounded : divisor ≤ twice → (twice ≡ divisor → (below + 1) % 2 ≡ 0) → Rounded dividend divisor (below + 1)
    unfolding distance
    above_rounded near even = near_rounded (below + 1) (omega (arith, near, is)) (λ e. even (omega (arith, e, is))) where
      is : 2 * off (below + 1) + twice ≡ 2 * divisor
      is = omega (arith, mod-add-div' dividend divisor, mod-lt dividend some, suc-mul below divisor)

    -- ---- what is computed
    pub quotient_rounded : Rounded dividend divisor (rounded_quotient dividend divisor)
    unfolding rounded_quotient even_of
    quotient_rounded = by_half (dec_lt twice divisor) (dec_lt divisor twice) (ℕ_discrete (below % 2) 0) where
      by_half : Dec (twice < divisor) → Dec (divisor < twice) → Dec (below % 2 ≡ 0) → Rounded dividend divisor (rounded_quotient dividend divisor)
      by_half (yes less) more even = rw (lt-ltb twice divisor less) (below_rounded (omega arith) (λ e. absurd (omega (arith, e))))
      by_half (no less) (yes more) even =
          rw (le-ltb twice divisor (omega arith), lt-ltb divisor twice more) (above_rounded (omega arith) (λ e. absurd (omega (arith, e))))
      by_half (no less) (no more) (yes even) =
          rw (le-ltb twice divisor (omega arith), le-ltb divisor twice (omega arith), eq-eqb (below % 2) 0 even) (below_rounded (omega arith) (λ e. even))
      by_half (no less) (no more) (no odd) =
          rw (le-ltb twice divisor (omega arith), le-ltb divisor twice (omega arith), ne_eqb (below % 2) 0 odd)
          (above_rounded (omega arith) (λ e. omega (arith, odd)))

    -- ---- no other number
    -- two would be as near and even, and a number between them nearer
    no_two : (m n : ℕ) → m < n → Rounded dividend divisor m → Rounded dividend divisor n → ⊥
    unfolding distance
    no_two m n l a b =
        let same : off n ≡ off m = le_antisymm (b.nearest m) (a.nearest n) in
        let even : m % 2 ≡ 0 = a.half_even n (λ e. omega (arith, e)) same in
        let even₂ : n % 2 ≡ 0 = b.half_even m (λ e. omega (arith, e)) (sym same) in
        omega (arith, same, some, suc-mul m divisor, apart {m = suc m} {n = n} (omega (arith, even, even₂)), a.nearest (suc m))

    pub rounded_once : (m n : ℕ) → Rounded dividend divisor m → Rounded dividend divisor n → m ≡ n
    rounded_once m n a b = go (dec_lt m n) (dec_lt n m) where
      go : Dec (m < n) → Dec (n < m) → m ≡ n
      go (yes l) more = absurd (no_two m n l a b)
      go (no l) (yes g) = absurd (no_two n m g b a)
      go (no l) (no g) = omega arith

    pub rounded_most : (n most : ℕ) → Rounded dividend divisor n → dividend ≤ most * divisor → n ≤ most
    unfolding distance
    rounded_most n most h few = go (dec_lt most n) where
      go : Dec (most < n) → n ≤ most
      go (yes l) = absurd (omega (arith, few, apart l, h.nearest most))
      go (no l) = omega arith
