-- The bytes of the table after a receipt or a checkpoint.
--     sends_kept, receipts_new         its sends and receipts, as the code writes them
--     received_put                     the three writes
--     receipt_put, checkpoint_put      the table after each, by the checkpoints taken
-- Assumes nothing.
use mathlib.Core.List.{List}
use mathlib.Core.Path.{◌≡◌, refl, sym, ap, ap₂, ◌∙◌}
use Prim.Native.Nat.{ℕ, ◌+◌, ◌*◌}
use native.Mathlib.Nat.{add-zero}
use lib.ListN.{get_or, set, take, length-set}
use lib.Seq.{set-get_or}
use Rattle.steps.proofs.StepLaws.{receipt_receives, received_at_sender, received_at_sent, receives_messages}
use Rattle.steps.specs.Steps.{after_checkpoint, after_receipt, received_at}
use Rattle.tables.proofs.CodingLaws.{entries_tabulate, even_number, odd_number}
use Rattle.tables.proofs.ReadLaws.{ReadMessages, sender_is, sent_is}
use Rattle.tables.specs.Format.{decode, encode, receipts_of, sends_of}
use Rattle.tables.specs.Lists.{tabulate}
use Rattle.tables.specs.Numbers.{put_at, u16_at, u16s}
use Rattle.tables.specs.Table.{Message, Table, count_of, message_count, process_count, with_counts}
use Rattle.step_writer.proofs.SendLaws.{Read, Writes, copied, copied_receipts, count_read, front_set, table_written}
use Rattle.step_writer.specs.Receipts.{CanReceive, after_receiving, receipts_set}
use Rattle.step_writer.proofs.ListedLaws.{messages-set, positions_below, receipts_set_lem}

module _ {table : List ℕ} {m : ℕ} {sends receipts : List ℕ} (read : ReadMessages table m sends receipts)
    {i : ℕ} {list : List ℕ} (can : CanReceive table i list) where
  abbrev t : Table
  t = decode table

  abbrev received : ℕ → Message
  received = received_at t i list

  messages_after : (after_receipt t i list).messages ≡ tabulate m received
  unfolding after_receipt
  messages_after = rw read.m_is

  sends_kept : copied m sends ≡ sends_of (after_receipt t i list).messages
  sends_kept =
      sym (ap sends_of messages_after ∙ entries_tabulate (λ x. x.sender) (λ x. x.sent) m received (λ e. u16_at sends (2 * e))
      (λ k l. received_at_sender t i list k ∙ sym (sender_is read l refl) ∙ even_number sends k)
      (λ k l. received_at_sent t i list k ∙ sym (sent_is read l refl) ∙ odd_number sends k))

  receipts_new : {number : ℕ} → number ≡ count_of t i
      → receipts_set (u16s (copied m receipts)) list number ≡ u16s (receipts_of (after_receipt t i list).messages)
  unfolding message_count
  receipts_new number_is =
      ap₂ (λ (x : List ℕ) (n : ℕ). receipts_set (u16s x) list n) (copied_receipts read) number_is
      ∙ receipts_set_lem t.messages list (count_of t i) (positions_below can refl)
      ∙ ap (λ (x : List Message). u16s (receipts_of x)) (messages-set t i list)

  pub received_put : {n : ℕ} {counts : List ℕ} → Read table n m counts → {number : ℕ} → number ≡ get_or counts i 0 → (taken : ℕ)
      → {a z : ℕ} {before headed sent after : List ℕ}
      → Writes n m (take n (set counts i (number + taken))) (u16s (copied m sends)) (receipts_set (u16s (copied m receipts)) list number) a z
      before headed sent after
      → after ≡ put_at before 0 (encode (after_receiving t i list taken))
  unfolding after_receiving process_count message_count
  received_put r {number} number_is taken w =
      let count = number_is ∙ count_read r i in
      table_written w (after_receiving t i list taken) (r.n_is ∙ sym (length-set t.counts i (count_of t i + taken)))
      (r.m_is ∙ sym (receives_messages (receipt_receives t i list)))
      (front_set r i (number + taken) can.known ∙ ap (λ (c : ℕ). set t.counts i (c + taken)) count) (ap u16s sends_kept) (receipts_new count)

-- ---- the table after each: a receipt takes no checkpoint, and a checkpoint is one
module _ (t : Table) (i : ℕ) (list before : List ℕ) where
  none_taken : after_receiving t i list 0 ≡ after_receipt t i list
  unfolding after_receiving after_receipt count_of
  none_taken =
      ap (with_counts (after_receipt t i list))
      (ap (set t.counts i) (add-zero (count_of t i)) ∙ set-get_or t.counts i 0)

  pub receipt_put : {after : List ℕ} → after ≡ put_at before 0 (encode (after_receiving t i list 0))
      → after ≡ put_at before 0 (encode (after_receipt t i list))
  receipt_put put = put ∙ ap (λ (x : Table). put_at before 0 (encode x)) none_taken

  pub checkpoint_put : {after : List ℕ} → after ≡ put_at before 0 (encode (after_receiving t i list 1))
      → after ≡ put_at before 0 (encode (after_checkpoint t i list))
  unfolding after_receiving after_checkpoint
  checkpoint_put put = put
