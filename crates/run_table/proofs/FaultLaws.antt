-- Checks of messages, as one loop over the messages finds them. It keeps the refusal at the smallest place of a check that catches: places are
-- in checking order, whatever the numbers are.
--     none_caught, quiet_at          where none catches
--     place_within, number-there     it is no further than the list's end, and the refusal is the number that stands there, with one that
--                                    catches behind the last
--     smaller, number_at             the refusal at a place: the smaller of two, its number
--     faulted, unfaulted             whether there is one
--     nothing_below, place_next, fault_joined, fault_passed    the loops over the messages
-- Assumes nothing.
use mathlib.Core.Bool.{Bool, true, false, cond, ◌||◌}
use mathlib.Core.List.{List, [], ◌∷◌, ◌++◌, map}
use mathlib.Core.Path.{◌≡◌, refl, sym, ap, ap₂, ◌∙◌}
use Prim.Native.Nat.{ℕ, zero, suc, min, ◌+◌, ◌≤◌, ◌<◌, zero-le}
use native.Mathlib.Numerals.{add-one}
use native.Mathlib.Omega.{arith}
use lib.ListN.{length, get_or, length-map}
use Rattle.tables.specs.Checks.{Check, first_caught}
use Rattle.tables.specs.Lists.{any_below}
use Rattle.tables.proofs.ListLaws.{none_below}
use Rattle.run_table.specs.EntryChecks.{MessageCheck, checks_at, checks_below, first_place, message_refusals, no_fault, refusal_at}
use Rattle.std.proofs.Common.{None, Option, Some, slice_get}
use Rattle.std.proofs.lemmas.Option.{get_or_from_slice_get}
use Rattle.std.specs.Option.{is_some}
use Rattle.std.specs.Ordering.{ord_min}
use Rattle.tables.specs.contracts.refusal.RefusalOrd.TheImpl.{cmp-value}
use Rattle.tables.specs.declared.refusal.Refusal.{Refusal}
use Rattle.tables.specs.declared.refusal.Refusal.TheVariants.{ChannelOutOfOrder}
use Rattle.tables.specs.Refusals.{refusal_number}

-- ---- the refusal, by the place of the first check that catches
pub place_within : (checks : List Check) → first_place checks ≤ length checks
unfolding first_place
place_within [] = zero-le
place_within (c ∷ rest) = go c.caught (place_within rest)
  where
    go : (b : Bool) → first_place rest ≤ length rest → cond b 0 (suc (first_place rest)) ≤ suc (length rest)
    go true l = zero-le
    go false l = omega arith

pub none_caught : (checks : List Check) → length checks ≡ first_place checks → first_caught checks ≡ 0
unfolding first_place first_caught
none_caught [] e = refl
none_caught (c ∷ rest) e = go c.caught e (none_caught rest)
  where
    go : (b : Bool) → suc (length rest) ≡ cond b 0 (suc (first_place rest)) → (length rest ≡ first_place rest → first_caught rest ≡ 0)
        → cond b c.number (first_caught rest) ≡ 0
    go true e later = absurd (omega arith)
    go false e later = later (omega (arith, e))

-- behind them stands one that catches, where they do not
pub number-there : (checks : List Check) (last : Check) → (first_place checks ≡ length checks → last.caught ≡ true)
    → first_caught (checks ++ (last ∷ [])) ≡ get_or (map (λ c. c.number) checks ++ (last.number ∷ [])) (first_place checks) 0
unfolding first_place first_caught
number-there [] last e = rw (e refl)
number-there (c ∷ rest) last e = go c.caught e (number-there rest last)
  where
    numbers : List ℕ
    numbers = map (λ c. c.number) rest ++ (last.number ∷ [])

    go : (b : Bool) → (cond b 0 (suc (first_place rest)) ≡ suc (length rest) → last.caught ≡ true)
        → ((first_place rest ≡ length rest → last.caught ≡ true) → first_caught (rest ++ (last ∷ [])) ≡ get_or numbers (first_place rest) 0)
        → cond b c.number (first_caught (rest ++ (last ∷ []))) ≡ get_or (c.number ∷ numbers) (cond b 0 (suc (first_place rest))) 0
    go true e later = refl
    go false e later = later (λ same. e (ap suc same))

-- where the checks of m messages catch nothing, they catch no one of them
pub quiet_at : (checks : List MessageCheck) {m k : ℕ} → k < m → first_place (checks_below checks m) ≡ length checks
    → first_place (checks_at checks k) ≡ length checks
unfolding first_place
quiet_at [] l e = refl
quiet_at (c ∷ rest) {m} {k} l e = go (any_below m c.catches) refl e (quiet_at rest l)
  where
    go : (b : Bool) → any_below m c.catches ≡ b → cond b 0 (suc (first_place (checks_below rest m))) ≡ suc (length rest)
        → (first_place (checks_below rest m) ≡ length rest → first_place (checks_at rest k) ≡ length rest)
        → cond (c.catches k) 0 (suc (first_place (checks_at rest k))) ≡ suc (length rest)
    go true is e later = absurd (omega arith)
    go false is e later = rw (none_below c.catches m is k l) (ap suc (later (omega (arith, e))))

-- ---- the refusal by the check of messages at a place
up_to_five : (P : ℕ → Type 0) → P 0 → P 1 → P 2 → P 3 → P 4 → P 5 → (place : ℕ) → place ≤ 5 → P place
up_to_five P p0 p1 p2 p3 p4 p5 zero l = p0
up_to_five P p0 p1 p2 p3 p4 p5 (suc zero) l = p1
up_to_five P p0 p1 p2 p3 p4 p5 (suc (suc zero)) l = p2
up_to_five P p0 p1 p2 p3 p4 p5 (suc (suc (suc zero))) l = p3
up_to_five P p0 p1 p2 p3 p4 p5 (suc (suc (suc (suc zero)))) l = p4
up_to_five P p0 p1 p2 p3 p4 p5 (suc (suc (suc (suc (suc zero))))) l = p5
up_to_five P p0 p1 p2 p3 p4 p5 (suc (suc (suc (suc (suc (suc k)))))) l = absurd (omega (arith, l))

-- the smaller of two refusals is that at the smaller place
abbrev Smaller : ℕ → ℕ → Type 0
Smaller p q = ord_min cmp-value.it (refusal_at p) (refusal_at q) ≡ refusal_at (min p q)

pub smaller : (p : ℕ) → p ≤ 5 → (q : ℕ) → q ≤ 5 → Smaller p q
smaller =
    up_to_five (λ p. (q : ℕ) → q ≤ 5 → Smaller p q)
    (up_to_five (Smaller 0) refl refl refl refl refl refl)
    (up_to_five (Smaller 1) refl refl refl refl refl refl)
    (up_to_five (Smaller 2) refl refl refl refl refl refl)
    (up_to_five (Smaller 3) refl refl refl refl refl refl)
    (up_to_five (Smaller 4) refl refl refl refl refl refl)
    (up_to_five (Smaller 5) refl refl refl refl refl refl)

-- its number
pub number_at : (place : ℕ) → place ≤ 5 → refusal_number (refusal_at place) ≡ get_or (6 ∷ 6 ∷ 7 ∷ 8 ∷ 9 ∷ 23 ∷ []) place 0
number_at =
    up_to_five (λ place. refusal_number (refusal_at place) ≡ get_or (6 ∷ 6 ∷ 7 ∷ 8 ∷ 9 ∷ 23 ∷ []) place 0) refl refl refl refl refl refl

-- whether there is one
module _ (place : ℕ) {fault : Option Refusal} (is-fault : fault ≡ slice_get message_refusals place) where
  pub faulted : is_some fault ≡ true → place ≡ no_fault → ⊥
  faulted some none =
      let nothing : fault ≡ None = is-fault ∙ ap (slice_get message_refusals) none in
      cc

  pub unfaulted : is_some fault ≡ false → place ≤ no_fault → place ≡ no_fault
  unfaulted none within =
      up_to_five (λ p. is_some (slice_get message_refusals p) ≡ false → p ≡ no_fault) (λ e. cc) (λ e. cc) (λ e. cc) (λ e. cc) (λ e. cc)
      (λ e. refl) place
      within (rw is-fault at none)

-- ---- checks that catch one thing or another
abbrev pick : (MessageCheck → Bool) → List MessageCheck → ℕ
pick g checks = first_place (map (λ c. record { caught = g c; number = c.number }) checks)

pick_or : (g h : MessageCheck → Bool) (checks : List MessageCheck) → pick (λ c. g c || h c) checks ≡ min (pick h checks) (pick g checks)
unfolding first_place
pick_or g h [] = refl
pick_or g h (c ∷ rest) = go (g c) (h c) (pick_or g h rest)
  where
    go : (v w : Bool) → pick (λ c. g c || h c) rest ≡ min (pick h rest) (pick g rest)
        → cond (v || w) 0 (suc (pick (λ c. g c || h c) rest)) ≡ min (cond w 0 (suc (pick h rest))) (cond v 0 (suc (pick g rest)))
    go true true e = omega arith
    go true false e = omega arith
    go false true e = omega arith
    go false false e = omega arith

-- ---- over the messages: where the checks catch nothing yet; behind message k
pub nothing_below : (checks : List MessageCheck) → length checks ≡ first_place (checks_below checks 0)
unfolding first_place any_below
nothing_below [] = refl
nothing_below (c ∷ rest) = ap suc (nothing_below rest)

pub place_next : (checks : List MessageCheck) (k : ℕ)
    → min (first_place (checks_below checks k)) (first_place (checks_at checks k)) ≡ first_place (checks_below checks (k + 1))
unfolding any_below
place_next checks k =
    sym (pick_or (λ c. c.catches k) (λ c. any_below k c.catches) checks) ∙ ap (λ (j : ℕ). first_place (checks_below checks j)) (sym (add-one k))

-- `first` is the refusal by the first check that catches one of the first k messages; `fault` is that of message k
module _ (checks : List MessageCheck) (few : length checks ≤ no_fault) (k : ℕ)
    {first : Refusal} (is-first : first ≡ refusal_at (first_place (checks_below checks k)))
    {fault : Option Refusal} (is-fault : fault ≡ slice_get message_refusals (first_place (checks_at checks k))) where
  within_below : first_place (checks_below checks k) ≤ 5
  within_below =
      omega (
        arith,
        few,
        place_within (checks_below checks k),
        length-map {B = Check} checks
            (λ c. record { caught = any_below k c.catches; number = c.number }),
      )

  within_at : first_place (checks_at checks k) ≤ 5
  within_at =
      omega (arith, few, place_within (checks_at checks k), length-map {B = Check} checks (λ c. record { caught = c.catches k; number = c.number }))

  -- it is caught
  pub fault_joined : {here next : Refusal} → fault ≡ Some here → next ≡ ord_min cmp-value.it first here
      → next ≡ refusal_at (first_place (checks_below checks (k + 1)))
  fault_joined {here} is-here is-next =
      let at-place : refusal_at (first_place (checks_at checks k)) ≡ here =
      get_or_from_slice_get message_refusals (first_place (checks_at checks k)) here ChannelOutOfOrder (sym is-fault ∙ is-here) in
      is-next ∙ ap₂ (ord_min cmp-value.it) is-first (sym at-place)
      ∙ smaller (first_place (checks_below checks k)) within_below (first_place (checks_at checks k)) within_at ∙ ap refusal_at (place_next checks k)

  -- it is not
  pub fault_passed : is_some fault ≡ false → first ≡ refusal_at (first_place (checks_below checks (k + 1)))
  fault_passed none =
      let behind : first_place (checks_at checks k) ≡ no_fault = unfaulted _ is-fault none within_at in
      let same : first_place (checks_below checks k) ≡ first_place (checks_below checks (k + 1)) = omega (arith, behind, within_below, place_next checks k) in
      is-first ∙ ap refusal_at same
