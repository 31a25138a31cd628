-- What a step has read of a table, and the bytes of the table after a send.
--     Read, table_read            what was read of an accepted table: its sizes, and its counts as an array
--     front_set                   its first N counts
--     count_read .. count_small   the count of a process
--     Writes, table_written       three writes that put a table
--     Longer, longer_put          an entry behind an array
--     copied                      the numbers of a part, as they are copied
--     send_put                    the table after a send
-- Assumes nothing.
use mathlib.Core.List.{List, [], ◌∷◌, ◌++◌}
use mathlib.Core.Path.{◌≡◌, sym, ap, ap₂, ◌∙◌, refl}
use Prim.Native.Nat.{ℕ, ◌+◌, ◌-◌, ◌*◌, ◌≤◌, ◌<◌}
use native.Mathlib.Omega.{arith}
use lib.ListN.{length, get_or, set, take, length-set}
use Rattle.steps.proofs.StepLaws.{send-messages, send-processes}
use Rattle.steps.specs.Steps.{after_send}
use Rattle.tables.proofs.AcceptLaws.{facts}
use Rattle.tables.proofs.ArrayLaws.{array_at, array_front, array_set}
use Rattle.tables.proofs.CodingLaws.{entries_append, receipts_numbers, sends_numbers}
use Rattle.tables.proofs.FormatLaws.{decode-messages}
use Rattle.tables.proofs.NumberLaws.{length-u16s, put_at_more, u16s-append}
use Rattle.tables.proofs.ReadLaws.{ReadMessages, processes_few}
use Rattle.number_writer.proofs.WriteLaws.{numbers_size}
use Rattle.table_writer.proofs.TablePutLaws.{table_put}
use Rattle.tables.specs.Arrays.{array_of}
use Rattle.tables.specs.Checks.{table_refusal}
use Rattle.tables.specs.Format.{decode, encode, entries_of, receipts_at, receipts_of, sends_at, sends_of, table_length}
use Rattle.tables.specs.Lists.{tabulate}
use Rattle.tables.specs.Numbers.{put_at, u16_at, u16s}
use Rattle.tables.specs.Table.{Table, count_of, message_count, most_checkpoints, most_processes, process_count}

-- ---- what a step has read of an accepted table
-- Its sizes, and its counts as an array. That N is small follows from the rest; `omega` finds it here.
pub record Read (table : List ℕ) (n m : ℕ) (counts : List ℕ) : Type 0 where
  pub accepted : table_refusal table ≡ 0
  pub n_is : n ≡ process_count (decode table)
  pub m_is : m ≡ message_count (decode table)
  pub counts_are : counts ≡ array_of (decode table).counts
  pub n_few : n ≤ most_processes

pub table_read : {table : List ℕ} {n m : ℕ} {counts : List ℕ} → table_refusal table ≡ 0 → n ≡ process_count (decode table)
    → m ≡ message_count (decode table) → counts ≡ array_of (decode table).counts → Read table n m counts
table_read {table} accepted n_is m_is counts_are = record {
  accepted = accepted;
  n_is = n_is;
  m_is = m_is;
  counts_are = counts_are;
  n_few = omega (arith, processes_few table accepted);
}

module _ {table : List ℕ} {n m : ℕ} {counts : List ℕ} (r : Read table n m counts) where
  abbrev t : Table
  t = decode table

  -- the first N of an array
  front : take n counts ≡ t.counts
  unfolding process_count
  front = array_front t.counts counts n r.counts_are r.n_is (omega (arith, r.n_few, r.n_is))

  pub front_set : (i v : ℕ) → i < process_count t → take n (set counts i v) ≡ set t.counts i v
  unfolding process_count
  front_set i v known =
      let small : length t.counts ≤ 32 = omega (arith, r.n_few, r.n_is) in
      array_front (set t.counts i v) (set counts i v) n
      (ap (λ (l : List ℕ). set l i v) r.counts_are ∙ array_set t.counts i v known small)
      (r.n_is ∙ sym (length-set t.counts i v)) (omega (arith, small, length-set t.counts i v))

  pub count_read : (p : ℕ) → get_or counts p 0 ≡ count_of t p
  unfolding count_of process_count
  count_read p = ap (λ (l : List ℕ). get_or l p 0) r.counts_are ∙ array_at t.counts (omega (arith, r.n_few, r.n_is)) p

  module _ {p : ℕ} (known : p < process_count t) where
    pub count_positive : 0 < get_or counts p 0
    count_positive = omega (arith, count_read p, (facts table r.accepted).well_formed.some_checkpoint p known)

    pub count_small : get_or counts p 0 ≤ most_checkpoints
    count_small = omega (arith, count_read p, (facts table r.accepted).limits.counts_limit p known)

-- ---- a table put at the front of a buffer, in three writes: its head; the bytes of its sends, at a; those of its receipts, at z
pub record Writes (n m : ℕ) (counts sends receipts : List ℕ) (a z : ℕ) (before headed sent after : List ℕ) : Type 0 where
  pub room : table_length n m ≤ length before
  pub head : headed ≡ put_at before 0 (u16s (length counts ∷ m ∷ counts))
  pub sends_begin : a ≡ sends_at n
  pub sends_put : sent ≡ put_at headed a sends
  pub receipts_begin : z ≡ receipts_at n m
  pub receipts_put : after ≡ put_at sent z receipts

pub table_written : {n m : ℕ} {counts sends receipts : List ℕ} {a z : ℕ} {before headed sent after : List ℕ}
    → Writes n m counts sends receipts a z before headed sent after → (t : Table) → n ≡ process_count t → m ≡ message_count t → counts
    ≡ t.counts
    → sends ≡ u16s (sends_of t.messages) → receipts ≡ u16s (receipts_of t.messages) → after ≡ put_at before 0 (encode t)
unfolding process_count
table_written {n} {m} {counts} {before = before} {headed = headed} {sent = sent} w t n_is m_is counts_are sends_are receipts_are =
    let head = w.head ∙ ap (λ (x : ℕ). put_at before 0 (u16s (x ∷ m ∷ counts))) (ap length counts_are ∙ sym n_is) in
    table_put t n m counts _ _ n_is m_is counts_are refl refl _ _ _ _ w.room head (w.sends_put ∙ ap₂ (put_at headed) w.sends_begin sends_are)
    (w.receipts_put ∙ ap₂ (put_at sent) w.receipts_begin receipts_are)

-- ---- an array of m entries put at a place of a buffer, and an entry behind it
pub record Longer (before : List ℕ) (at m : ℕ) (f : ℕ → ℕ) (a b : ℕ) (between after : List ℕ) : Type 0 where
  pub room : at + 4 * (m + 1) ≤ length before
  pub array : between ≡ put_at before at (u16s (tabulate (2 * m) f))
  pub entry : after ≡ put_at between (at + 4 * m) (u16s (a ∷ b ∷ []))

pub longer_put : {before : List ℕ} {at m : ℕ} {f : ℕ → ℕ} {a b : ℕ} {between after : List ℕ} → Longer before at m f a b between after
    → after ≡ put_at before at (u16s (tabulate (2 * m) f ++ (a ∷ b ∷ [])))
longer_put {before} {at} {m} {f} {a} {b} w =
    let xs : List ℕ = tabulate (2 * m) f in
    let long : length (u16s xs) ≡ 4 * m = omega (arith, numbers_size (2 * m) f) in
    w.entry ∙ ap₂ (λ (l : List ℕ) (i : ℕ). put_at l (at + i) (u16s (a ∷ b ∷ []))) w.array (sym long)
    ∙ put_at_more before at (u16s xs) (u16s (a ∷ b ∷ [])) (omega (arith, w.room, length-u16s (a ∷ b ∷ [])))
    ∙ ap (put_at before at) (sym (u16s-append xs (a ∷ b ∷ [])))

-- ---- the table after a send
module _ (t : Table) (j i : ℕ) where
  sends_after : sends_of (after_send t j i).messages ≡ sends_of t.messages ++ (j ∷ (count_of t j - 1) ∷ [])
  unfolding after_send entries_of
  sends_after = entries_append (λ x. x.sender) (λ x. x.sent) t.messages _

  receipts_after : receipts_of (after_send t j i).messages ≡ receipts_of t.messages ++ (i ∷ 0 ∷ [])
  unfolding after_send entries_of
  receipts_after = entries_append (λ x. x.receiver) (λ x. x.received) t.messages _

-- the numbers of a part, as they are copied
abbrev pub copied : ℕ → List ℕ → List ℕ
copied m part = tabulate (2 * m) (λ k. u16_at part (2 * k))

module _ {table : List ℕ} {m : ℕ} {sends receipts : List ℕ} (read : ReadMessages table m sends receipts) where
  copied_sends : copied m sends ≡ sends_of (decode table).messages
  copied_sends = rw (read.m_is, read.sends_are, decode-messages table) (sym (sends_numbers table))

  pub copied_receipts : copied m receipts ≡ receipts_of (decode table).messages
  copied_receipts = rw (read.m_is, read.receipts_are, decode-messages table) (sym (receipts_numbers table))

  pub send_put : {n : ℕ} {counts : List ℕ} → Read table n m counts → (j i : ℕ) {y : ℕ} → y ≡ get_or counts j 0 - 1
      → {a z : ℕ} {before headed sent after : List ℕ}
      → Writes n (m + 1) (take n counts) (u16s (copied m sends ++ (j ∷ y ∷ []))) (u16s (copied m receipts ++ (i ∷ 0 ∷ []))) a z before
      headed sent after
      → after ≡ put_at before 0 (encode (after_send (decode table) j i))
  unfolding after_send
  send_put r j i y_is w =
      let t = decode table in
      table_written w (after_send t j i) (r.n_is ∙ sym (send-processes t j i)) (ap (λ (x : ℕ). x + 1) r.m_is ∙ sym (send-messages t j i))
      (front r)
      (ap₂ (λ (s : List ℕ) (x : ℕ). u16s (s ++ (j ∷ x ∷ []))) copied_sends (y_is ∙ ap (λ (x : ℕ). x - 1) (count_read r j))
      ∙ ap u16s (sym (sends_after t j i)))
      (ap u16s (ap (λ (s : List ℕ). s ++ (i ∷ 0 ∷ [])) copied_receipts ∙ sym (receipts_after t j i)))
