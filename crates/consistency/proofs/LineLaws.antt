-- Laws of consistent lines and of the latest one.
--     orphan_free                   not an orphan, as an implication
--     zero_consistent               the line of zeros is consistent
--     max_consistent, min_consistent    of two consistent lines the larger and the smaller, place by place
--     latest_unique                 two latest lines under one ceiling are the same at every process
--     latest_monotone               a higher ceiling gives no lower line
--     latest_antitone               more messages give no higher line
--     latest-min                    the line under the smaller of two ceilings is the smaller of their lines
--     latest_from                   the latest line under anything between the line and its ceiling is the same line
-- Assumes nothing.
use mathlib.Core.List.{List}
use mathlib.Core.Path.{◌≡◌, subst⁻¹}
use Prim.Native.Nat.{ℕ, ◌≤◌, ◌<◌, max, min}
use native.Mathlib.Decide.{dec_le}
use native.Mathlib.Nat.{le_antisymm, le_trans}
use native.Mathlib.Omega.{arith}
use lib.ListN.{get_or}
use Rattle.consistency.specs.Lines.{AtOrBelow, Consistent, Latest, Line, Orphan}
use Rattle.tables.specs.Table.{Message, no_message}

-- not an orphan: where it was received and not sent before the line, it was not received before it either
pub orphan_free : (m : Message) (l : Line) → (Orphan m l → ⊥) → 0 < m.received → l m.sender ≤ m.sent → l m.receiver < m.received
orphan_free m l none d s = go (dec_le m.received (l m.receiver))
  where
    go : Dec (m.received ≤ l m.receiver) → l m.receiver < m.received
    go (yes b) = absurd (none (record { delivered = d; sent_after = s; received-before = b }))
    go (no b) = omega arith

pub zero_consistent : (messages : List Message) (l : Line) → ((p : ℕ) → l p ≡ 0) → Consistent messages l
zero_consistent messages l z k o = omega (arith, o.delivered, o.received-before, z (get_or messages k no_message).receiver)

module _ (messages : List Message) (a b : Line) (ca : Consistent messages a) (cb : Consistent messages b) where
  pub max_consistent : Consistent messages (λ p. max (a p) (b p))
  max_consistent k o =
      let m = get_or messages k no_message in
      let below-a : a m.receiver < m.received = orphan_free m a (ca k) o.delivered (omega (arith, o.sent_after)) in
      let below-b : b m.receiver < m.received = orphan_free m b (cb k) o.delivered (omega (arith, o.sent_after)) in
      omega (arith, o.received-before)

  -- the smaller line stands at or before the send at one of the two lines, whose receiver stands before the receipt
  pub min_consistent : Consistent messages (λ p. min (a p) (b p))
  min_consistent k o = go (dec_le (a m.sender) m.sent)
    where
      m : Message
      m = get_or messages k no_message

      go : Dec (a m.sender ≤ m.sent) → ⊥
      go (yes s) = omega (arith, orphan_free m a (ca k) o.delivered s, o.received-before)
      go (no s) = omega (arith, orphan_free m b (cb k) o.delivered (omega (arith, o.sent_after)), o.received-before)

pub latest_unique : (messages : List Message) (ceiling l l' : Line) → Latest messages ceiling l → Latest messages ceiling l' → (p : ℕ)
    → l p ≡ l' p
latest_unique messages ceiling l l' a b p =
    le_antisymm (b.latest l a.under a.consistent p) (a.latest l' b.under b.consistent p)

pub latest_monotone : (messages : List Message) (ceiling ceiling' l l' : Line) → AtOrBelow ceiling ceiling' → Latest messages ceiling l
    → Latest messages ceiling' l' → AtOrBelow l l'
latest_monotone messages ceiling ceiling' l l' h a b = b.latest l (λ p. le_trans (a.under p) (h p)) a.consistent

-- the messages of one list stand in the other
pub latest_antitone : (messages more : List Message) (ceiling l l' : Line)
    → ((k : ℕ) → (k' : ℕ) × (get_or more k' no_message ≡ get_or messages k no_message)) → Latest messages ceiling l → Latest more ceiling l'
    → AtOrBelow l' l
latest_antitone messages more ceiling l l' found a b =
    a.latest l' b.under (λ k o. b.consistent (found k).0 (subst⁻¹ (λ (m : Message). Orphan m l') (found k).1 o))

pub latest-min : (messages : List Message) (ceiling ceiling' l l' : Line) → Latest messages ceiling l → Latest messages ceiling' l'
    → Latest messages (λ p. min (ceiling p) (ceiling' p)) (λ p. min (l p) (l' p))
latest-min messages ceiling ceiling' l l' a b = record {
  under = λ p. omega (arith, a.under p, b.under p);
  consistent = min_consistent messages l l' a.consistent b.consistent;
  latest = λ other below c p.
      omega (arith, a.latest other (λ q. omega (arith, below q)) c p, b.latest other (λ q. omega (arith, below q)) c p);
}

pub latest_from : (messages : List Message) (ceiling start l : Line) → Latest messages ceiling l → AtOrBelow l start → AtOrBelow start ceiling
    → Latest messages start l
latest_from messages ceiling start l a above below = record {
  under = above;
  consistent = a.consistent;
  latest = λ other h c. a.latest other (λ p. le_trans (h p) (below p)) c;
}

-- lines and ceilings that agree at every process
pub latest_same : (messages : List Message) (ceiling ceiling' l l' : Line) → ((p : ℕ) → ceiling p ≡ ceiling' p) → ((p : ℕ) → l p ≡ l' p)
    → Latest messages ceiling l → Latest messages ceiling' l'
latest_same messages ceiling ceiling' l l' c e a = record {
  under = λ p. omega (arith, a.under p, c p, e p);
  consistent = λ k o. a.consistent k (record {
    delivered = o.delivered;
    sent_after = omega (arith, o.sent_after, e (get_or messages k no_message).sender);
    received-before = omega (arith, o.received-before, e (get_or messages k no_message).receiver);
  });
  latest = λ other h k p. omega (arith, a.latest other (λ q. omega (arith, h q, c q)) k p, e p);
}
