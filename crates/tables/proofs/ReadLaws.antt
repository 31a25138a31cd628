-- What the code knows of an accepted table.
--     whole, long_enough, processes_few, messages_few    its length, N and M
--     counts_size, sends_size, receipts_size   the lengths of its parts
--     count_is                                 its counts, as the parts have them
--     message_is, message_good, senders_known, receivers_known   its messages, as the parts have them
--     sender_read .. received_read             the numbers of a message, as the code read them
--     counts_known, counts_taken, sends_taken, receipts_taken    the parts, by the sizes that the code read
--     message_there                            message k of the parts, as a function may take it
--     ReadCounts, counts_read, count_read      the counts, as the code has read them
--     ReadMessages, messages_read, messages_known    the messages, as the code has read them
--     good, sender_is .. received_is           one of them
-- Assumes nothing.
use mathlib.Core.List.{List}
use mathlib.Core.Path.{◌≡◌, sym, ap, ap₂, ◌∙◌}
use Prim.Native.Nat.{ℕ, ◌+◌, ◌-◌, ◌*◌, ◌<◌, ◌≤◌}
use native.Mathlib.Omega.{arith}
use lib.ListN.{length, take, drop}
use Rattle.tables.proofs.AcceptLaws.{facts}
use Rattle.tables.proofs.FormatLaws.{counts_length, decode_count, decode_message, decode-messages, decode-processes, receipts_length, sends_length}
use Rattle.tables.specs.Checks.{GoodMessage, table_refusal}
use Rattle.tables.specs.Format.{checkpoint_at, count_at, counts_at, counts_part, decode, message_at, messages_in}
use Rattle.tables.specs.Format.{process_at, processes_in, receipts_at, receipts_part, sends_at, sends_part, table_length}
use Rattle.tables.specs.Numbers.{u16_at}
use Rattle.tables.specs.Parts.{Counts, MessageThere, Messages}
use Rattle.tables.specs.Table.{Message, Table, count_of, message_count, message_of, most_messages, most_processes, process_count}

module _ (bytes : List ℕ) (accepted : table_refusal bytes ≡ 0) where
  abbrev N : ℕ
  N = process_count (decode bytes)

  abbrev M : ℕ
  M = message_count (decode bytes)

  pub whole : length bytes ≡ table_length N M
  whole = (facts bytes accepted).whole

  pub long_enough : 4 ≤ length bytes
  long_enough = omega (arith, whole)

  pub processes_few : N ≤ most_processes
  processes_few = (facts bytes accepted).limits.processes_limit

  pub messages_few : M ≤ most_messages
  messages_few = (facts bytes accepted).limits.messages_limit

  -- ---- the parts
  whole_length : length bytes ≡ table_length (processes_in bytes) (messages_in bytes)
  whole_length = omega (arith, whole, decode-processes bytes, decode-messages bytes)

  pub counts_size : length (counts_part bytes) ≡ 2 * N
  counts_size = omega (arith, counts_length bytes whole_length, decode-processes bytes)

  pub sends_size : length (sends_part bytes) ≡ 4 * M
  sends_size = omega (arith, sends_length bytes whole_length, decode-messages bytes)

  pub receipts_size : length (receipts_part bytes) ≡ 4 * M
  receipts_size = omega (arith, receipts_length bytes whole_length, decode-messages bytes)

  -- ---- their entries
  module _ (p : ℕ) (l : p < N) where
    pub count_is : count_at (counts_part bytes) p ≡ count_of (decode bytes) p
    count_is = sym (decode_count bytes p (omega (arith, decode-processes bytes)))

    counts_positive : 0 < count_at (counts_part bytes) p
    counts_positive = omega (arith, count_is, (facts bytes accepted).well_formed.some_checkpoint p l)

  module _ (k : ℕ) (l : k < M) where
    pub message_is : message_at (sends_part bytes) (receipts_part bytes) k ≡ message_of (decode bytes) k
    message_is = sym (decode_message bytes k (omega (arith, decode-messages bytes)))

    pub message_good : GoodMessage (decode bytes) (message_of (decode bytes) k)
    message_good = (facts bytes accepted).well_formed.good_messages k l

    pub senders_known : process_at (sends_part bytes) k < N
    unfolding message_at
    senders_known = omega (arith, message_good.sender_known, ap (λ (x : Message). x.sender) message_is)

    pub receivers_known : process_at (receipts_part bytes) k < N
    unfolding message_at
    receivers_known = omega (arith, message_good.receiver_known, ap (λ (x : Message). x.receiver) message_is)

-- ---- the parts, by the sizes that the code read
module _ (bytes : List ℕ) (accepted : table_refusal bytes ≡ 0) {n : ℕ} (n_is : n ≡ process_count (decode bytes)) where
  -- as a function may take them
  pub counts_known : {counts : List ℕ} → counts ≡ counts_part bytes → Counts n counts
  counts_known are =
      rw (n_is, are) record { few = processes_few bytes accepted; size = counts_size bytes accepted; positive = counts_positive bytes accepted }

  -- taken from a start to an end
  pub counts_taken : {end : ℕ} → end ≡ sends_at n → take (end - counts_at) (drop counts_at bytes) ≡ counts_part bytes
  unfolding counts_part
  counts_taken {end} e =
      let size : end - counts_at ≡ 2 * processes_in bytes = omega (arith, decode-processes bytes) in
      rw size

  module _ {m : ℕ} (m_is : m ≡ message_count (decode bytes)) where
    pub sends_taken : {start end : ℕ} → start ≡ sends_at n → end ≡ receipts_at n m → take (end - start) (drop start bytes) ≡ sends_part bytes
    unfolding sends_part
    sends_taken {start} {end} s e =
        let size : end - start ≡ 4 * messages_in bytes = omega (arith, decode-messages bytes) in
        let place : start ≡ sends_at (processes_in bytes) = omega (arith, decode-processes bytes) in
        ap₂ (λ (x y : ℕ). take x (drop y bytes)) size place

    pub receipts_taken : {start : ℕ} → start ≡ receipts_at n m → take (length bytes - start) (drop start bytes) ≡ receipts_part bytes
    unfolding receipts_part
    receipts_taken {start} s =
        let size : length bytes - start ≡ 4 * messages_in bytes = omega (arith, whole bytes accepted, decode-messages bytes) in
        let place : start ≡ receipts_at (processes_in bytes) (messages_in bytes) = omega (arith, decode-processes bytes, decode-messages bytes) in
        ap₂ (λ (x y : ℕ). take x (drop y bytes)) size place

pub message_there : {n m k : ℕ} {sends receipts : List ℕ} → Messages n m sends receipts → k < m → MessageThere n k sends receipts
message_there {k = k} known l = record {
  in_sends = omega (arith, known.sends_size);
  in_receipts = omega (arith, known.receipts_size);
  sender_known = known.senders_known k l;
  receiver_known = known.receivers_known k l;
}

-- ---- the counts as the code has read them
-- How many there are in an accepted table, and their part. That n is small and the size follow from the rest; where they stand in a
-- loop's invariant, `omega` finds them.
pub record ReadCounts (bytes : List ℕ) (n : ℕ) (counts : List ℕ) : Type 0 where
  pub accepted : table_refusal bytes ≡ 0
  pub n_is : n ≡ process_count (decode bytes)
  pub counts_are : counts ≡ counts_part bytes
  pub few : n ≤ most_processes
  pub counts_size : length counts ≡ 2 * n

pub counts_read : {bytes : List ℕ} {n : ℕ} {counts : List ℕ} → table_refusal bytes ≡ 0 → n ≡ process_count (decode bytes)
    → counts ≡ counts_part bytes → ReadCounts bytes n counts
counts_read {bytes} accepted n_is counts_are =
    let known = counts_known bytes accepted n_is counts_are in
    record { accepted = accepted; n_is = n_is; counts_are = counts_are; few = known.few; counts_size = known.size }

-- count p, by the number that was read of it
pub count_read : {bytes : List ℕ} {n : ℕ} {counts : List ℕ} → ReadCounts bytes n counts → {p : ℕ} → p < n
    → {v : ℕ} → v ≡ u16_at counts (2 * p) → v ≡ count_of (decode bytes) p
unfolding count_at
count_read {bytes} read {p} l e =
    e ∙ ap (λ (part : List ℕ). u16_at part (2 * p)) read.counts_are ∙ count_is bytes read.accepted p (omega (arith, read.n_is))

-- ---- the messages as the code has read them
-- How many there are in an accepted table, their sends and their receipts. The sizes follow from the rest; where they stand in a
-- loop's invariant, `omega` finds them.
pub record ReadMessages (bytes : List ℕ) (m : ℕ) (sends receipts : List ℕ) : Type 0 where
  pub accepted : table_refusal bytes ≡ 0
  pub m_is : m ≡ message_count (decode bytes)
  pub sends_are : sends ≡ sends_part bytes
  pub receipts_are : receipts ≡ receipts_part bytes
  pub sends_size : length sends ≡ 4 * m
  pub receipts_size : length receipts ≡ 4 * m

pub messages_read : {bytes : List ℕ} {m : ℕ} {sends receipts : List ℕ} → table_refusal bytes ≡ 0 → m ≡ message_count (decode bytes)
    → sends ≡ sends_part bytes → receipts ≡ receipts_part bytes → ReadMessages bytes m sends receipts
messages_read {bytes} accepted m_is sends_are receipts_are = record {
  accepted = accepted;
  m_is = m_is;
  sends_are = sends_are;
  receipts_are = receipts_are;
  sends_size = rw (sends_are, m_is) (sends_size bytes accepted);
  receipts_size = rw (receipts_are, m_is) (receipts_size bytes accepted);
}

module _ {bytes : List ℕ} {m : ℕ} {sends receipts : List ℕ} (read : ReadMessages bytes m sends receipts) where
  abbrev t : Table
  t = decode bytes

  pub messages_known : {n : ℕ} → process_count t ≤ n → Messages n m sends receipts
  messages_known l =
      record {
        few = omega (arith, read.m_is, messages_few bytes read.accepted);
        sends_size = read.sends_size;
        receipts_size = read.receipts_size;
        senders_known = rw (read.m_is, read.sends_are) (λ k b. omega (arith, senders_known bytes read.accepted k b));
        receivers_known = rw (read.m_is, read.receipts_are) (λ k b. omega (arith, receivers_known bytes read.accepted k b));
      }

  -- message k
  module _ {k : ℕ} (l : k < m) where
    there : k < message_count t
    there = omega (arith, read.m_is)

    pub good : GoodMessage t (message_of t k)
    good = message_good bytes read.accepted k there

    is : message_at (sends_part bytes) (receipts_part bytes) k ≡ message_of t k
    is = message_is bytes read.accepted k there

    -- by the numbers that were read of its entries
    module _ {j : ℕ} (e : j ≡ u16_at sends (4 * k)) where
      pub sender_is : j ≡ (message_of t k).sender
      unfolding message_at process_at
      sender_is = e ∙ ap (λ (s : List ℕ). u16_at s (4 * k)) read.sends_are ∙ ap (λ (x : Message). x.sender) is

      pub sender_small : j < most_processes
      sender_small = omega (arith, sender_is, good.sender_known, processes_few bytes read.accepted)

    pub sent_is : {y : ℕ} → y ≡ u16_at sends (4 * k + 2) → y ≡ (message_of t k).sent
    unfolding message_at checkpoint_at
    sent_is e = e ∙ ap (λ (s : List ℕ). u16_at s (4 * k + 2)) read.sends_are ∙ ap (λ (x : Message). x.sent) is

    module _ {i : ℕ} (e : i ≡ u16_at receipts (4 * k)) where
      pub receiver_is : i ≡ (message_of t k).receiver
      unfolding message_at process_at
      receiver_is = e ∙ ap (λ (s : List ℕ). u16_at s (4 * k)) read.receipts_are ∙ ap (λ (x : Message). x.receiver) is

      pub receiver_small : i < most_processes
      receiver_small = omega (arith, receiver_is, good.receiver_known, processes_few bytes read.accepted)

    pub received_is : {r : ℕ} → r ≡ u16_at receipts (4 * k + 2) → r ≡ (message_of t k).received
    unfolding message_at checkpoint_at
    received_is e = e ∙ ap (λ (s : List ℕ). u16_at s (4 * k + 2)) read.receipts_are ∙ ap (λ (x : Message). x.received) is
