-- What holds of every entry of an array of numbers.
--     every_set         once one is set
--     every_tabulate    where all are given
-- Assumes nothing.
use mathlib.Core.List.{List, [], ◌∷◌}
use mathlib.Core.Path.{subst⁻¹}
use Prim.Native.Nat.{ℕ, zero, suc, ◌<◌}
use native.Mathlib.Decide.{dec_lt}
use native.Mathlib.Omega.{arith}
use lib.ListN.{get_or, set, get_or-eq_default}
use Rattle.tables.proofs.ListLaws.{get_or_tabulate, length-tabulate}
use Rattle.tables.specs.Lists.{tabulate}

pub every_set : (P : ℕ → Type 0) (l : List ℕ) (i v : ℕ) → P v → ((j : ℕ) → P (get_or l j 0)) → (j : ℕ) → P (get_or (set l i v) j 0)
every_set P [] i v new all j = all j
every_set P (x ∷ rest) zero v new all zero = new
every_set P (x ∷ rest) zero v new all (suc j) = all (suc j)
every_set P (x ∷ rest) (suc i) v new all zero = all zero
every_set P (x ∷ rest) (suc i) v new all (suc j) = every_set P rest i v new (λ n. all (suc n)) j

pub every_tabulate : (P : ℕ → Type 0) (n : ℕ) (f : ℕ → ℕ) → P 0 → ((j : ℕ) → j < n → P (f j)) → (j : ℕ)
    → P (get_or (tabulate n f) j 0)
every_tabulate P n f none all j = go (dec_lt j n)
  where
    go : Dec (j < n) → P (get_or (tabulate n f) j 0)
    go (yes l) = subst⁻¹ P (get_or_tabulate n f j 0 l) (all j l)
    go (no l) = subst⁻¹ P (get_or-eq_default (tabulate n f) 0 (omega (arith, length-tabulate n f))) none
