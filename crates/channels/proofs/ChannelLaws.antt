-- What the code's tests say of two messages, and what it knows of each channel.
--     sent_earlier, both-wait .. both_received    the tests of a pair, one after another
--     channel_small, one_number                   the channel of a message, as one number below 1,024
--     lasts_none, lasts_more                      where the last message of each channel stands
--     first-there, neighbour_low, neighbour_there a message beside the one that stands there
-- Assumes nothing.
use mathlib.Core.Bool.{Bool, true, false, cond, not, ◌&&◌, ◌||◌}
use mathlib.Core.List.{List}
use mathlib.Core.Path.{◌≡◌, refl, sym, ap, ◌∙◌}
use Prim.Native.Nat.{ℕ, suc, ◌+◌, ◌-◌, ◌*◌, ◌<◌, ◌≤◌}
use native.Mathlib.Decide.{ℕ_discrete}
use native.Mathlib.Numerals.{add-one}
use native.Mathlib.Omega.{arith}
use borrow.Author.Tests.{eq-eqb, le-ltb, lt-ltb, ne_eqb}
use lib.Dec.{eqb, ltb}
use lib.ListN.{get_or, set, replicate, length-replicate, length-set, get_or-replicate}
use lib.Seq.{get_or-set_same, get_or-set_other}
use Rattle.channels.proofs.NeighbourLaws.{last_within}
use Rattle.channels.specs.Neighbours.{Lasts, behind, behind_neighbour, channel_at, last_in}
use Rattle.tables.specs.Checks.{out_of_turn, same_channel, waits}
use Rattle.tables.specs.Format.{message_at, process_at}
use Rattle.tables.specs.Parts.{MessageThere}
use Rattle.tables.specs.Table.{Message, most_processes}

-- ---- the tests of a pair
module _ (m later : Message) where
  pub sent_earlier : later.sent < m.sent → true ≡ out_of_turn m later
  unfolding out_of_turn
  sent_earlier l = rw (lt-ltb later.sent m.sent l)

  module _ (rise : m.sent ≤ later.sent) where
    pub later-waits : later.received ≡ 0 → false ≡ out_of_turn m later
    unfolding out_of_turn waits
    later-waits z = rw (le-ltb later.sent m.sent rise, eq-eqb later.received 0 z) (go (eqb m.received 0))
      where
        go : (b : Bool) → false ≡ ((b && false) || ((not b && false) && ltb later.received m.received))
        go true = refl
        go false = refl

    module _ (some : later.received ≡ 0 → ⊥) where
      pub overtakes : m.received ≡ 0 → true ≡ out_of_turn m later
      unfolding out_of_turn waits
      overtakes z = rw (le-ltb later.sent m.sent rise, ne_eqb later.received 0 some, eq-eqb m.received 0 z)

      pub both_received : (m.received ≡ 0 → ⊥) → ltb later.received m.received ≡ out_of_turn m later
      unfolding out_of_turn waits
      both_received first = rw (le-ltb later.sent m.sent rise, ne_eqb later.received 0 some, ne_eqb m.received 0 first)

-- ---- the channel of a message
pub channel_small : {k : ℕ} {sends receipts : List ℕ} → MessageThere most_processes k sends receipts → channel_at sends receipts k < 1024
unfolding channel_at
channel_small there = omega (arith, there.sender_known, there.receiver_known)

-- two messages have one channel just where the numbers are the same
pub one_number : {sends receipts : List ℕ} (q k : ℕ) → MessageThere most_processes q sends receipts → MessageThere most_processes k sends receipts
    → same_channel (message_at sends receipts q) (message_at sends receipts k) ≡ eqb (channel_at sends receipts q) (channel_at sends receipts k)
unfolding same_channel message_at channel_at
one_number {sends} {receipts} q k earlier later =
    go (process_at sends q) (process_at receipts q) (process_at sends k) (process_at receipts k) earlier.receiver_known later.receiver_known
  where
    go : (s r s' r' : ℕ) → r < 32 → r' < 32 → (eqb s s' && eqb r r') ≡ eqb (32 * s + r) (32 * s' + r')
    go s r s' r' small small' = by (ℕ_discrete s s') (ℕ_discrete r r')
      where
        by : Dec (s ≡ s') → Dec (r ≡ r') → (eqb s s' && eqb r r') ≡ eqb (32 * s + r) (32 * s' + r')
        by (yes a) (yes b) = rw (eq-eqb s s' a, eq-eqb r r' b, eq-eqb (32 * s + r) (32 * s' + r') (omega (arith, a, b)))
        by (yes a) (no b) = rw (eq-eqb s s' a, ne_eqb r r' b, ne_eqb (32 * s + r) (32 * s' + r') (λ e. b (omega (arith, a, e))))
        by (no a) other = rw (ne_eqb s s' a, ne_eqb (32 * s + r) (32 * s' + r') (λ e. a (omega (arith, e, small, small'))))

-- ---- where the last message of each channel stands
pub lasts_none : {channel : ℕ → ℕ} → Lasts channel 0 (replicate 1024 0)
unfolding last_in
lasts_none = record { size = length-replicate {A = ℕ} 1024 0; places = λ c small. get_or-replicate 1024 c 0 0 small }

module _ {channel : ℕ → ℕ} {k : ℕ} {last : List ℕ} (w : Lasts channel k last) {c : ℕ} (is-channel : c ≡ channel k) (small : c < 1024) where
  -- with message k
  pub lasts_more : Lasts channel (k + 1) (set last c (k + 1))
  unfolding last_in
  lasts_more = record { size = length-set last c (k + 1) ∙ w.size; places = λ c' inside. rw (add-one k) (go c' inside (ℕ_discrete c' c)) }
    where
      go : (c' : ℕ) → c' < 1024 → Dec (c' ≡ c)
          → get_or (set last c (suc k)) c' 0 ≡ cond (eqb (channel k) c') (suc k) (last_in channel k c')
      go c' inside (yes same) =
          rw (same, eq-eqb (channel k) c (sym is-channel)) (get_or-set_same last c (suc k) 0 (omega (arith, small, w.size)))
      go c' inside (no other) =
          rw (ne_eqb (channel k) c' (λ e. other (sym (is-channel ∙ e)))) (get_or-set_other last c c' (suc k) 0 other ∙ w.places c' inside)

  -- what was read of the channel of message k
  last_is : get_or last c 0 ≡ last_in channel k (channel k)
  last_is = w.places c small ∙ ap (last_in channel k) is-channel

  -- message k is the first of its channel
  pub first-there : (message : ℕ → Message) → (1 ≤ get_or last c 0 → ⊥) → false ≡ behind_neighbour channel message k
  unfolding behind_neighbour behind
  first-there message none =
      let nothing : 0 ≡ get_or last c 0 = omega (arith, none) in
      ap (behind message k) (nothing ∙ last_is)

  -- message q is the one before it
  module _ {q : ℕ} (stands : (1 ≤ get_or last c 0) × (q ≡ get_or last c 0 - 1)) where
    pub neighbour_low : q < k
    neighbour_low = omega (arith, stands, last_is, last_within channel (channel k) k)

    pub neighbour_there : (message : ℕ → Message) → out_of_turn (message q) (message k) ≡ behind_neighbour channel message k
    unfolding behind_neighbour behind
    neighbour_there message =
        let next : suc q ≡ get_or last c 0 = omega (arith, stands) in
        ap (behind message k) (next ∙ last_is)
