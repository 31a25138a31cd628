-- A loop that goes up over the numbers below n and looks for one that passes a test.
--     Searched                         the invariant: it has found none so far
--     searched_none, searched_more     how it begins and goes on
--     searched_here, searched_all      what it has found where one passes, and at its end
-- Assumes nothing.
use mathlib.Core.Bool.{Bool, true, false}
use mathlib.Core.Path.{◌≡◌, refl, sym, ap, ◌∙◌}
use Prim.Native.Nat.{ℕ, ◌+◌, ◌≤◌, ◌<◌, zero-le}
use native.Mathlib.Nat.{le_antisymm}
use native.Mathlib.Omega.{arith}
use Rattle.tables.proofs.ListLaws.{any_below_found, any_below_more}
use Rattle.tables.specs.Lists.{any_below}

-- It stands at k, and no number below k passes.
pub record Searched (n : ℕ) (test : ℕ → Bool) (k : ℕ) : Type 0 where
  pub within : k ≤ n
  pub none : any_below k test ≡ false

module _ {n : ℕ} {test : ℕ → Bool} where
  pub searched_none : Searched n test 0
  unfolding any_below
  searched_none = record { within = zero-le; none = refl }

  module _ {k : ℕ} (w : Searched n test k) where
    pub searched_all : n ≤ k → false ≡ any_below n test
    searched_all l = sym w.none ∙ ap (λ (j : ℕ). any_below j test) (le_antisymm w.within l)

    module _ (l : k < n) where
      pub searched_here : test k ≡ true → true ≡ any_below n test
      searched_here passes = sym (any_below_found test n k l passes)

      pub searched_more : test k ≡ false → Searched n test (k + 1)
      searched_more fails = record { within = omega arith; none = any_below_more test k w.none fails }
