-- Channels that deliver in turn (check 23).
--     one_channel, channel_same            two messages of one channel, and their processes
--     channel_on                           of three messages, the first and the last have one channel
--     waits_read, waits_undelivered, undelivered_waits    a message that waits
--     turn_read, turn_quiet, turn_on       out of turn or in turn; in turn behind one that is in turn
--     broken_ext, broken_on                the same messages are broken alike, and with further ones
--     turns_read, turns_quiet              check 23 is quiet just where the messages of each channel are in turn
-- Assumes nothing.
use mathlib.Core.Bool.{Bool, true, false, not, ◌&&◌, ◌||◌, and-false, and-true}
use mathlib.Core.Path.{◌≡◌, refl, sym, ap, ap₂, ◌∙◌}
use Prim.Native.Nat.{ℕ, ◌+◌, ◌<◌}
use native.Mathlib.Decide.{ℕ_discrete}
use native.Mathlib.Omega.{arith}
use borrow.Author.Tests.{eq-eqb, eqb-false, eqb-true, le-ltb, ltb-false, ne_eqb}
use lib.Dec.{eqb, ltb}
use Rattle.tables.proofs.ListLaws.{and_left, and_right, any_below_ext, any_below_found, any_below_none, found_below, none_below, or_false_left}
use Rattle.tables.proofs.ListLaws.{or_false_right}
use Rattle.tables.specs.Checks.{ChannelsInTurn, InTurn, broken_below, broken_channel, out_of_turn, same_channel, waits}
use Rattle.tables.specs.Lists.{any_below}
use Rattle.tables.specs.Table.{Message, Table, message_count, message_of}

-- ---- one channel
module _ (m later : Message) where
  pub one_channel : same_channel m later ≡ true → (m.sender ≡ later.sender) × (m.receiver ≡ later.receiver)
  unfolding same_channel
  one_channel e = (
    eqb-true m.sender later.sender (and_left (eqb m.sender later.sender) (eqb m.receiver later.receiver) e),
    eqb-true m.receiver later.receiver (and_right (eqb m.sender later.sender) (eqb m.receiver later.receiver) e),
  )

  pub channel_same : m.sender ≡ later.sender → m.receiver ≡ later.receiver → same_channel m later ≡ true
  unfolding same_channel
  channel_same senders receivers = rw (eq-eqb m.sender later.sender senders, eq-eqb m.receiver later.receiver receivers)

pub channel_on : (a b c : Message) → same_channel a b ≡ true → same_channel b c ≡ true → same_channel a c ≡ true
channel_on a b c first then =
    let ab = one_channel a b first in
    let bc = one_channel b c then in
    channel_same a c (ab.0 ∙ bc.0) (ab.1 ∙ bc.1)

-- ---- a message that waits
module _ (m : Message) where
  -- by its receipt number, as it was read
  pub waits_read : {r : ℕ} → r ≡ m.received → waits m ≡ eqb r 0
  unfolding waits
  waits_read e = ap (λ (x : ℕ). eqb x 0) (sym e)

  pub waits_undelivered : waits m ≡ true → m.received ≡ 0
  unfolding waits
  waits_undelivered e = eqb-true m.received 0 e

  pub undelivered_waits : m.received ≡ 0 → waits m ≡ true
  unfolding waits
  undelivered_waits e = eq-eqb m.received 0 e

-- ---- in turn
module _ {m later : Message} where
  pub turn_read : out_of_turn m later ≡ false → InTurn m later
  unfolding out_of_turn waits
  turn_read e =
      let quiet = or_false_right (ltb later.sent m.sent) _ e in
      let there : 0 < later.received → eqb later.received 0 ≡ false = λ l. ne_eqb later.received 0 (λ z. omega (arith, l, z)) in
      let first : 0 < later.received → eqb m.received 0 ≡ false = λ l.
      sym (and-true (eqb m.received 0)) ∙ (rw (there l) at (or_false_left (eqb m.received 0 && not (eqb later.received 0)) _ quiet)) in
      record {
        sends_rise = ltb-false later.sent m.sent (or_false_left (ltb later.sent m.sent) _ e);
        received-first = λ l.
            let some : m.received ≡ 0 → ⊥ = eqb-false m.received 0 (first l) in
            omega (arith, some);
        receipts_rise = λ l.
            ltb-false later.received m.received
            (rw (there l, first l) at (or_false_right (eqb m.received 0 && not (eqb later.received 0)) _ quiet));
      }

  pub turn_quiet : InTurn m later → out_of_turn m later ≡ false
  unfolding out_of_turn waits
  turn_quiet t = rw (le-ltb later.sent m.sent t.sends_rise) (go (ℕ_discrete later.received 0))
    where
      w : Bool
      w = eqb m.received 0

      go : Dec (later.received ≡ 0)
          → ((w && not (eqb later.received 0)) || ((not w && not (eqb later.received 0)) && ltb later.received m.received)) ≡ false
      go (yes z) = rw (eq-eqb later.received 0 z, and-false w, and-false (not w))
      go (no z) =
          let l : 0 < later.received = omega (arith, z) in
          rw (ne_eqb later.received 0 z, ne_eqb m.received 0 (λ y. omega (arith, y, t.received-first l)))
          (le-ltb later.received m.received (t.receipts_rise l))

-- in turn behind one that is in turn: send numbers do not fall, and neither do receipt numbers, if one that waits is taken for the highest
pub turn_on : {a b c : Message} → InTurn a b → InTurn b c → InTurn a c
turn_on first then = record {
  sends_rise = omega (arith, first.sends_rise, then.sends_rise);
  received-first = λ l. first.received-first (then.received-first l);
  receipts_rise = λ l. omega (arith, first.receipts_rise (then.received-first l), then.receipts_rise l);
}

-- ---- check 23
abbrev pub broken_pair : (ℕ → Message) → ℕ → ℕ → Bool
broken_pair message k q = same_channel (message q) (message k) && out_of_turn (message q) (message k)

-- the same messages by position, so many of them
pub broken_ext : {m m' : ℕ} {f g : ℕ → Message} → m ≡ m' → ((k : ℕ) → k < m' → f k ≡ g k) → broken_below m f ≡ broken_below m' g
unfolding broken_below
broken_ext {m} {m'} {f} {g} size same =
    ap (λ (n : ℕ). broken_below n f) size
    ∙ any_below_ext (λ k. any_below k (broken_pair f k)) (λ k. any_below k (broken_pair g k)) m' (λ k within.
    any_below_ext (broken_pair f k) (broken_pair g k) k (λ q before.
    ap₂ (λ (a b : Message). same_channel a b && out_of_turn a b) (same q (omega arith)) (same k within)))

-- a channel that is broken stays so with further messages
pub broken_on : (message : ℕ → Message) {k m : ℕ} → k < m → broken_below (k + 1) message ≡ true → broken_below m message ≡ true
unfolding broken_below
broken_on message {k} {m} l broken =
    let (j, before, out) = found_below (λ k. any_below k (broken_pair message k)) (k + 1) broken in
    any_below_found (λ k. any_below k (broken_pair message k)) m j (omega (arith, before, l)) out

module _ (t : Table) where
  pub turns_read : broken_channel t ≡ false → ChannelsInTurn t
  unfolding broken_channel broken_below
  turns_read quiet q k before within same =
      let all = none_below (λ k. any_below k (broken_pair (message_of t) k)) (message_count t) quiet k within in
      let here : broken_pair (message_of t) k q ≡ false = none_below (broken_pair (message_of t) k) k all q before in
      turn_read (rw same at here)

  pub turns_quiet : ChannelsInTurn t → broken_channel t ≡ false
  unfolding broken_channel broken_below
  turns_quiet turns =
      any_below_none (λ k. any_below k (broken_pair (message_of t) k)) (message_count t) (λ k within.
      any_below_none (broken_pair (message_of t) k) k (λ q before.
      go k q (same_channel (message_of t q) (message_of t k)) refl (λ same. turns q k before within same)))
    where
      go : (k q : ℕ) (b : Bool) → same_channel (message_of t q) (message_of t k) ≡ b
          → (same_channel (message_of t q) (message_of t k) ≡ true → InTurn (message_of t q) (message_of t k))
          → (b && out_of_turn (message_of t q) (message_of t k)) ≡ false
      go k q true e turn = turn_quiet (turn e)
      go k q false e turn = refl
