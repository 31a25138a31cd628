-- Laws of a table's bytes.
--     counts_length, sends_length, receipts_length      the parts of bytes whose length is right
--     decode-processes, decode-messages                 N and M of the decoded table
--     decode_count, decode_message                      its entries
--     count_place, send_place, receipt_place            where the numbers of the parts stand among the bytes
--     count_beyond, message_beyond                      what stands beyond the last process and the last message
--     known_process, message_in                         a process that has a checkpoint, and a message that was received, are the table's
--     ReadSizes, count_none .. received-there           the lookups, from the numbers that the code read
--     length_entries, encode-length                     the length of an encoded table
-- Assumes nothing.
use mathlib.Core.List.{List, [], ◌∷◌, ◌++◌}
use mathlib.Core.Path.{◌≡◌, refl, sym, ap, ap₂, ◌∙◌, subst, subst⁻¹}
use Prim.Native.Nat.{ℕ, ◌+◌, ◌*◌, ◌<◌, ◌≤◌}
use native.Mathlib.Decide.{dec_lt}
use native.Mathlib.Nat.{add-zero}
use native.Mathlib.Omega.{arith}
use lib.ListN.{length, length-append, drop, length-take, length-drop, get_or-eq_default}
use Rattle.tables.proofs.ListLaws.{get_or_tabulate, length-tabulate}
use Rattle.tables.proofs.NumberLaws.{length-u16s, number_at-drop, number_at-take}
use Rattle.tables.specs.Format.{checkpoint_at, count_at, counts_at, counts_part, decode, encode, entries_of, message_at, messages_in}
use Rattle.tables.specs.Format.{process_at, processes_in, receipts_at, receipts_of, receipts_part, sends_at, sends_of, sends_part, table_length}
use Rattle.tables.specs.Numbers.{u16_at}
use Rattle.tables.specs.Table.{Message, Table, count_of, message_count, message_of, no_message, process_count}

module _ (bytes : List ℕ) (whole : length bytes ≡ table_length (processes_in bytes) (messages_in bytes)) where
  pub counts_length : length (counts_part bytes) ≡ 2 * processes_in bytes
  unfolding counts_part
  counts_length = simp (length-take, length-drop) (omega arith)

  pub sends_length : length (sends_part bytes) ≡ 4 * messages_in bytes
  unfolding sends_part
  sends_length = simp (length-take, length-drop) (omega arith)

  pub receipts_length : length (receipts_part bytes) ≡ 4 * messages_in bytes
  unfolding receipts_part
  receipts_length = simp (length-take, length-drop) (omega arith)

module _ (bytes : List ℕ) where
  pub decode-processes : process_count (decode bytes) ≡ processes_in bytes
  unfolding process_count decode
  decode-processes = length-tabulate (processes_in bytes) (count_at (counts_part bytes))

  pub decode-messages : message_count (decode bytes) ≡ messages_in bytes
  unfolding message_count decode
  decode-messages = length-tabulate (messages_in bytes) (message_at (sends_part bytes) (receipts_part bytes))

  pub decode_count : (p : ℕ) → p < processes_in bytes → count_of (decode bytes) p ≡ count_at (counts_part bytes) p
  unfolding count_of decode
  decode_count p l = get_or_tabulate (processes_in bytes) (count_at (counts_part bytes)) p 0 l

  pub decode_message : (k : ℕ) → k < messages_in bytes → message_of (decode bytes) k ≡ message_at (sends_part bytes) (receipts_part bytes) k
  unfolding message_of decode
  decode_message k l = get_or_tabulate (messages_in bytes) (message_at (sends_part bytes) (receipts_part bytes)) k no_message l

-- where the numbers of the parts stand among the bytes
module _ (bytes : List ℕ) where
  pub count_place : (p : ℕ) → p < processes_in bytes → count_at (counts_part bytes) p ≡ u16_at bytes (counts_at + 2 * p)
  unfolding count_at counts_part
  count_place p l = number_at-take 2 (2 * processes_in bytes) (drop counts_at bytes) (2 * p) (omega arith) ∙ number_at-drop 2 counts_at bytes (2 * p)

  module _ (at : ℕ) (l : at + 1 < 4 * messages_in bytes) where
    pub send_place : u16_at (sends_part bytes) at ≡ u16_at bytes (sends_at (processes_in bytes) + at)
    unfolding sends_part
    send_place =
        number_at-take 2 (4 * messages_in bytes) (drop (sends_at (processes_in bytes)) bytes) at (omega arith)
        ∙ number_at-drop 2 (sends_at (processes_in bytes)) bytes at

    pub receipt_place : u16_at (receipts_part bytes) at ≡ u16_at bytes (receipts_at (processes_in bytes) (messages_in bytes) + at)
    unfolding receipts_part
    receipt_place =
        number_at-take 2 (4 * messages_in bytes) (drop (receipts_at (processes_in bytes) (messages_in bytes)) bytes) at (omega arith)
        ∙ number_at-drop 2 (receipts_at (processes_in bytes) (messages_in bytes)) bytes at

-- what stands beyond the last process and the last message of a table
pub count_beyond : (t : Table) (p : ℕ) → process_count t ≤ p → count_of t p ≡ 0
unfolding count_of process_count
count_beyond t p l = get_or-eq_default t.counts 0 l

pub message_beyond : (t : Table) (k : ℕ) → message_count t ≤ k → message_of t k ≡ no_message
unfolding message_of message_count
message_beyond t k l = get_or-eq_default t.messages no_message l

-- a process that has a checkpoint is one of the table's
pub known_process : (t : Table) (i c : ℕ) → c < count_of t i → i < process_count t
known_process t i c b = go (dec_lt i (process_count t))
  where
    go : Dec (i < process_count t) → i < process_count t
    go (yes l) = l
    go (no l) = absurd (omega (arith, count_beyond t i (omega arith)))

-- a message that was received is one of the table's
pub message_in : (t : Table) (k : ℕ) → 0 < (message_of t k).received → k < message_count t
message_in t k d = go (dec_lt k (message_count t))
  where
    go : Dec (k < message_count t) → k < message_count t
    go (yes l) = l
    go (no l) = absurd (omega (arith, d, ap (λ (m : Message). m.received) (message_beyond t k (omega arith))))

-- ---- the lookups of a decoded table, from the numbers that the code read of any bytes
pub record ReadSizes (bytes : List ℕ) (n m : ℕ) : Type 0 where
  pub n_is : n ≡ u16_at bytes 0
  pub m_is : m ≡ u16_at bytes 2

pub sizes_in : (bytes : List ℕ) → ReadSizes bytes (processes_in bytes) (messages_in bytes)
unfolding processes_in messages_in
sizes_in bytes = record { n_is = refl; m_is = refl }

module _ (bytes : List ℕ) {n : ℕ} (read : n ≡ u16_at bytes 0) where
  pub count_none : {p : ℕ} → n ≤ p → count_of (decode bytes) p ≡ 0
  unfolding processes_in
  count_none {p} l = count_beyond (decode bytes) p (subst⁻¹ (λ (x : ℕ). x ≤ p) (decode-processes bytes ∙ sym read) l)

  pub count_some : {p : ℕ} → p < n → count_of (decode bytes) p ≡ u16_at bytes (counts_at + 2 * p)
  unfolding processes_in
  count_some {p} l =
      let below : p < processes_in bytes = subst (λ (x : ℕ). p < x) read l in
      decode_count bytes p below ∙ count_place bytes p below

module _ {bytes : List ℕ} {n m : ℕ} (read : ReadSizes bytes n m) where
  pub message_none : {k : ℕ} → m ≤ k → message_of (decode bytes) k ≡ no_message
  unfolding messages_in
  message_none {k} l = message_beyond (decode bytes) k (subst⁻¹ (λ (x : ℕ). x ≤ k) (decode-messages bytes ∙ sym read.m_is) l)

  -- the number v that was read of message k, in the array that begins at a place
  module _ {k : ℕ} (l : k < m) where
    below : k < messages_in bytes
    unfolding messages_in
    below = subst (λ (x : ℕ). k < x) read.m_is l

    there : (f : Message → ℕ) {v : ℕ} → v ≡ f (message_at (sends_part bytes) (receipts_part bytes) k) → v ≡ f (message_of (decode bytes) k)
    there f e = e ∙ ap f (sym (decode_message bytes k below))

    module _ {at : ℕ} (e : at ≡ sends_at n) where
      from_send : (d : ℕ) → d + 1 < 4 → u16_at bytes (at + (4 * k + d)) ≡ u16_at (sends_part bytes) (4 * k + d)
      unfolding processes_in
      from_send d b =
          ap (λ (x : ℕ). u16_at bytes (x + (4 * k + d))) (e ∙ ap sends_at read.n_is) ∙ sym (send_place bytes (4 * k + d) (omega (arith, below)))

      pub sender_there : {v : ℕ} → v ≡ u16_at bytes (at + 4 * k) → v ≡ (message_of (decode bytes) k).sender
      unfolding message_at process_at
      sender_there r = there (λ x. x.sender) (r ∙ (simp add-zero at (from_send 0 (omega arith))))

      pub sent_there : {v : ℕ} → v ≡ u16_at bytes (at + (4 * k + 2)) → v ≡ (message_of (decode bytes) k).sent
      unfolding message_at checkpoint_at
      sent_there r = there (λ x. x.sent) (r ∙ from_send 2 (omega arith))

    module _ {at : ℕ} (e : at ≡ receipts_at n m) where
      from_receipt : (d : ℕ) → d + 1 < 4 → u16_at bytes (at + (4 * k + d)) ≡ u16_at (receipts_part bytes) (4 * k + d)
      unfolding processes_in messages_in
      from_receipt d b =
          ap (λ (x : ℕ). u16_at bytes (x + (4 * k + d))) (e ∙ ap₂ receipts_at read.n_is read.m_is)
          ∙ sym (receipt_place bytes (4 * k + d) (omega (arith, below)))

      pub receiver_there : {v : ℕ} → v ≡ u16_at bytes (at + 4 * k) → v ≡ (message_of (decode bytes) k).receiver
      unfolding message_at process_at
      receiver_there r = there (λ x. x.receiver) (r ∙ (simp add-zero at (from_receipt 0 (omega arith))))

      pub received-there : {v : ℕ} → v ≡ u16_at bytes (at + (4 * k + 2)) → v ≡ (message_of (decode bytes) k).received
      unfolding message_at checkpoint_at
      received-there r = there (λ x. x.received) (r ∙ from_receipt 2 (omega arith))

-- ---- writing and reading
-- the length of an encoded table
pub length_entries : (f g : Message → ℕ) (ms : List Message) → length (entries_of f g ms) ≡ 2 * length ms
unfolding entries_of
length_entries f g [] = refl
length_entries f g (m ∷ rest) =
    let ih : length (entries_of f g rest) ≡ 2 * length rest = length_entries f g rest in
    omega arith

pub encode-length : (t : Table) → length (encode t) ≡ table_length (process_count t) (message_count t)
unfolding encode process_count message_count
encode-length t =
    let all = length-u16s (length t.counts ∷ length t.messages ∷ (t.counts ++ (sends_of t.messages ++ receipts_of t.messages))) in
    let outer = length-append t.counts (sends_of t.messages ++ receipts_of t.messages) in
    let inner = length-append (sends_of t.messages) (receipts_of t.messages) in
    let sends = length_entries (λ m. m.sender) (λ m. m.sent) t.messages in
    let receipts = length_entries (λ m. m.receiver) (λ m. m.received) t.messages in
    omega (arith, all, outer, inner, sends, receipts)
