-- Lists that are given by their entries, and searches in lists and among numbers. Assumes nothing.
use Rattle.std.specs.Prelude.{Bool, cond, true, false, ◌||◌, List, [], ◌∷◌, ◌++◌, ◌≡◌, ℕ, zero}
use Rattle.std.specs.Prelude.{suc, ◌+◌, ◌≤◌, ◌<◌, length, get_or}

-- The list of n entries whose entry k is f k.
unfoldable pub tabulate : {A : Type 0} → ℕ → (ℕ → A) → List A
tabulate zero f = []
tabulate (suc n) f = f zero ∷ tabulate n (λ k. f (suc k))

-- Lists for the numbers below n, one after another.
unfoldable pub rows : {A : Type 0} → (ℕ → List A) → ℕ → List A
rows f zero = []
rows f (suc n) = rows f n ++ f n

-- The numbers below n that pass a test, rising.
unfoldable pub select : (ℕ → Bool) → ℕ → List ℕ
select test zero = []
select test (suc n) = select test n ++ cond (test n) (n ∷ []) []

-- Whether some entry of a list passes a test.
unfoldable pub any : {A : Type 0} → (A → Bool) → List A → Bool
any test [] = false
any test (x ∷ rest) = test x || any test rest

-- Whether some number below n passes a test.
unfoldable pub any_below : ℕ → (ℕ → Bool) → Bool
any_below zero test = false
any_below (suc n) test = test n || any_below n test

-- A number is the first from a start on, below a limit, that passes a test; it is the limit where there is none.
pub record First (test : ℕ → Bool) (from limit first : ℕ) : Type 0 where
  pub from_on : from ≤ first
  pub within : first ≤ limit
  pub none_before : (c : ℕ) → from ≤ c → c < first → test c ≡ false
  pub passes : first < limit → test first ≡ true

-- An entry is listed where it stands at some position of the list.
unfoldable pub Listed : {A : Type 0} → A → List A → Type 0
Listed x l = (n : ℕ) × (n < length l) × (get_or l n x ≡ x)

-- The sum of a list.
unfoldable pub sum : List ℕ → ℕ
sum [] = 0
sum (n ∷ rest) = n + sum rest
