-- To compare each message with the one before it in its channel is enough.
--     last_there, last_within, last_nearest    the last message of a channel
--     neighbours_in_turn                       where each is in turn behind that one, every pair of a channel is in turn
--     neighbours_enough                        so they find what all pairs of positions do
-- Assumes nothing.
use mathlib.Core.Bool.{Bool, true, false, cond, false≢true}
use mathlib.Core.Logic.{⊎_elim}
use mathlib.Core.Path.{◌≡◌, refl, sym, ap, ◌∙◌}
use Prim.Native.Nat.{ℕ, zero, suc, ◌<◌, ◌≤◌, zero-le}
use native.Mathlib.Decide.{ℕ_discrete}
use native.Mathlib.Nat.{eq-or-lt_of_le, le_of_suc-le-suc, not-suc-le-zero}
use native.Mathlib.Omega.{arith}
use borrow.Author.Tests.{eq-eqb, ne_eqb}
use lib.Dec.{eqb}
use Rattle.channels.specs.Neighbours.{behind, behind_neighbour, last_in}
use Rattle.tables.proofs.ListLaws.{any_below_found, any_below_none, found_below, or_false_left, or_false_right}
use Rattle.tables.proofs.TurnLaws.{broken_pair, turn_on, turn_quiet, turn_read}
use Rattle.tables.specs.Checks.{broken_below, out_of_turn, same_channel}
use Rattle.tables.specs.Lists.{any_below}
use Rattle.tables.specs.Table.{Message}

-- ---- the last message of a channel
module _ (channel : ℕ → ℕ) (c : ℕ) where
  pub last_there : (k q : ℕ) → last_in channel k c ≡ suc q → (q < k) × (channel q ≡ c)
  unfolding last_in
  last_there zero q e = absurd (omega arith)
  last_there (suc k) q e = go (ℕ_discrete (channel k) c) (last_there k q)
    where
      go : Dec (channel k ≡ c) → (last_in channel k c ≡ suc q → (q < k) × (channel q ≡ c)) → (q < suc k) × (channel q ≡ c)
      go (yes same) below =
          let is : k ≡ q = omega (arith, (rw (eq-eqb (channel k) c same) at e)) in
          (omega arith, ap channel (sym is) ∙ same)
      go (no other) below =
          let (l, there) = below (rw (ne_eqb (channel k) c other) at e) in
          (omega (arith, l), there)

  pub last_within : (k : ℕ) → last_in channel k c ≤ k
  unfolding last_in
  last_within zero = zero-le
  last_within (suc k) = go (eqb (channel k) c) (last_within k)
    where
      go : (b : Bool) → last_in channel k c ≤ k → cond b (suc k) (last_in channel k c) ≤ suc k
      go true l = omega arith
      go false l = omega (arith, l)

  pub last_nearest : (k p : ℕ) → p < k → channel p ≡ c → p < last_in channel k c
  unfolding last_in
  last_nearest zero p l same = absurd (not-suc-le-zero l)
  last_nearest (suc k) p l same = go (ℕ_discrete (channel k) c) (λ b. last_nearest k p b same)
    where
      go : Dec (channel k ≡ c) → (p < k → p < last_in channel k c) → p < cond (eqb (channel k) c) (suc k) (last_in channel k c)
      go (yes here) below = rw (eq-eqb (channel k) c here) l
      go (no other) below =
          rw (ne_eqb (channel k) c other)
          (⊎_elim (λ (e : p ≡ k). absurd (other (ap channel (sym e) ∙ same))) below (eq-or-lt_of_le (le_of_suc-le-suc l)))

-- ---- each message beside the one before it in its channel
module _ (channel : ℕ → ℕ) (message : ℕ → Message) where
  -- Every pair of a channel below k is in turn.
  abbrev AllInTurn : ℕ → Type 0
  AllInTurn k = (q j : ℕ) → q < j → j < k → channel q ≡ channel j → out_of_turn (message q) (message j) ≡ false

  -- The pairs of message k: the nearest one is its neighbour, and any other one is in turn with that already.
  pairs_of : (k : ℕ) → AllInTurn k → behind_neighbour channel message k ≡ false → (q : ℕ) → q < k → channel q ≡ channel k
      → out_of_turn (message q) (message k) ≡ false
  unfolding behind_neighbour behind
  pairs_of k below quiet q l same = go (last_in channel k (channel k)) refl quiet
    where
      near : q < last_in channel k (channel k)
      near = last_nearest channel (channel k) k q l same

      go : (last : ℕ) → last_in channel k (channel k) ≡ last → behind message k last ≡ false → out_of_turn (message q) (message k) ≡ false
      go zero is quiet = absurd (omega (arith, near, is))
      go (suc p) is beside =
          let (before, there) = last_there channel (channel k) k p is in
          ⊎_elim (λ (e : q ≡ p). rw e beside)
          (λ (b : q < p). turn_quiet (turn_on (turn_read (below q p b before (same ∙ sym there))) (turn_read beside)))
          (eq-or-lt_of_le (omega (arith, near, is)))

  pub neighbours_in_turn : (k : ℕ) → any_below k (behind_neighbour channel message) ≡ false → AllInTurn k
  unfolding any_below
  neighbours_in_turn zero none q j l within same = absurd (not-suc-le-zero within)
  neighbours_in_turn (suc k) none q j l within same =
      let below = neighbours_in_turn k (or_false_right (behind_neighbour channel message k) (any_below k (behind_neighbour channel message)) none) in
      let here = or_false_left (behind_neighbour channel message k) (any_below k (behind_neighbour channel message)) none in
      ⊎_elim (λ (e : j ≡ k). rw e (pairs_of k below here q (omega (arith, l, e)) (same ∙ ap channel e))) (λ (b : j < k). below q j l b same)
      (eq-or-lt_of_le (le_of_suc-le-suc within))

  -- a message that is out of turn behind its neighbour, and the neighbour's position
  neighbour_found : (k : ℕ) → behind_neighbour channel message k ≡ true
      → (q : ℕ) × (q < k) × ((channel q ≡ channel k) × (out_of_turn (message q) (message k) ≡ true))
  unfolding behind_neighbour behind
  neighbour_found k e = go (last_in channel k (channel k)) refl e
    where
      go : (last : ℕ) → last_in channel k (channel k) ≡ last → behind message k last ≡ true
          → (q : ℕ) × (q < k) × ((channel q ≡ channel k) × (out_of_turn (message q) (message k) ≡ true))
      go zero is e = absurd (false≢true e)
      go (suc q) is e =
          let (before, there) = last_there channel (channel k) k q is in
          (q, before, (there, e))

  pub neighbours_enough : (m : ℕ) → ((q k : ℕ) → q < m → k < m → same_channel (message q) (message k) ≡ eqb (channel q) (channel k))
      → any_below m (behind_neighbour channel message) ≡ broken_below m message
  unfolding broken_below
  neighbours_enough m one = go (any_below m (behind_neighbour channel message)) refl
    where
      quiet : any_below m (behind_neighbour channel message) ≡ false → (k q : ℕ) → k < m → q < k → Dec (channel q ≡ channel k)
          → broken_pair message k q ≡ false
      quiet none k q within before (yes same) =
          rw (one q k (omega arith) within, eq-eqb (channel q) (channel k) same) (neighbours_in_turn m none q k before within same)
      quiet none k q within before (no other) = rw (one q k (omega arith) within, ne_eqb (channel q) (channel k) other)

      go : (b : Bool) → any_below m (behind_neighbour channel message) ≡ b
          → b ≡ any_below m (λ k. any_below k (broken_pair message k))
      go true e =
          let (k, within, found) = found_below (behind_neighbour channel message) m e in
          let (q, before, (same, out)) = neighbour_found k found in
          let here : broken_pair message k q ≡ true =
          rw (one q k (omega (arith, before, within)) within, eq-eqb (channel q) (channel k) same) out in
          sym (any_below_found (λ k. any_below k (broken_pair message k)) m k within
          (any_below_found (broken_pair message k) k q before here))
      go false e =
          sym (any_below_none (λ k. any_below k (broken_pair message k)) m (λ k within.
          any_below_none (broken_pair message k) k (λ q before.
          quiet e k q within before (ℕ_discrete (channel q) (channel k)))))
