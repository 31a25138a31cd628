-- Laws of a list of positions: which older messages of a channel it passes over (check 24), and how it rises.
--     OlderListed, none_passed, passes_none   a list passes over none just where each older one that waits is listed
--     neighbours_rise                         a list of which each entry rises above the one before it
-- Assumes nothing.
use mathlib.Core.Bool.{Bool, true, false, not, ◌&&◌}
use mathlib.Core.List.{List, [], ◌∷◌}
use mathlib.Core.Path.{◌≡◌, refl}
use Prim.Native.Nat.{ℕ, zero, suc, ◌-◌, ◌<◌, zero-le, suc-le-suc}
use native.Mathlib.Omega.{arith}
use borrow.Author.Tests.{lt-leb, not-false}
use lib.Dec.{eqb}
use lib.ListN.{length, get_or}
use Rattle.steps.specs.Steps.{not_rising, not_rising_after, passes_over}
use Rattle.tables.proofs.ListLaws.{any_below_none, none_below}
use Rattle.tables.proofs.TurnLaws.{undelivered_waits, waits_undelivered}
use Rattle.tables.specs.Checks.{same_channel, waits}
use Rattle.tables.specs.Lists.{any}
use Rattle.tables.specs.Table.{Table, message_of}

-- ---- check 24
-- Each older message of the channel of position k that waits is listed.
abbrev pub OlderListed : Table → List ℕ → ℕ → Type 0
OlderListed t list k =
    (q : ℕ) → q < k → same_channel (message_of t q) (message_of t k) ≡ true → (message_of t q).received ≡ 0 → any (eqb q) list ≡ true

module _ (t : Table) (list : List ℕ) (k : ℕ) where
  pub none_passed : OlderListed t list k → passes_over t list k ≡ false
  unfolding passes_over
  none_passed listed = any_below_none _ k (λ q older. go q older (same_channel (message_of t q) (message_of t k)) (waits (message_of t q)) refl refl)
    where
      go : (q : ℕ) → q < k → (same waiting : Bool) → same_channel (message_of t q) (message_of t k) ≡ same → waits (message_of t q) ≡ waiting
          → ((same && waiting) && not (any (eqb q) list)) ≡ false
      go q older true true e f = rw (listed q older e (waits_undelivered (message_of t q) f))
      go q older true false e f = refl
      go q older false waiting e f = refl

  pub passes_none : passes_over t list k ≡ false → OlderListed t list k
  unfolding passes_over
  passes_none quiet q older channel undelivered =
      not-false (any (eqb q) list) (rw (channel, undelivered_waits (message_of t q) undelivered) at (none_below _ k quiet q older))

-- ---- a list of which each entry rises above the one before it
follows_none : (x : ℕ) (rest : List ℕ) → ((a : ℕ) → a < length rest → get_or (x ∷ rest) a 0 < get_or rest a 0) → not_rising_after x rest
    ≡ false
unfolding not_rising_after
follows_none x [] h = refl
follows_none x (y ∷ rest) h = rw (lt-leb y x (h zero (suc-le-suc zero-le))) (follows_none y rest (λ a l. h (suc a) (suc-le-suc l)))

pub neighbours_rise : (list : List ℕ) → ((a : ℕ) → 0 < a → a < length list → get_or list (a - 1) 0 < get_or list a 0) → not_rising list ≡ false
unfolding not_rising
neighbours_rise [] h = refl
neighbours_rise (x ∷ rest) h =
    follows_none x rest
    (λ a l.
    let place : suc a - 1 ≡ a = omega arith in
    rw place at (h (suc a) (omega arith) (suc-le-suc l)))
