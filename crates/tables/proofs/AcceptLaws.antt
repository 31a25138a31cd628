-- An accepted table's facts.
--     facts, refusal_zero            the refusal is 0 just when the table is accepted
--     orderly                        an accepted table is orderly
--     numbers_fit, reread            a well formed table within the limits fits 16 bits; written, it is read as it was
--     accepted_encode                an orderly table within the limits, written, is accepted
--     rewritten                      an accepted table's bytes, read and written again
--     front_refused                  an input longer than the largest table is refused by its front
-- Assumes nothing.
use mathlib.Core.Bool.{Bool, true, false, cond, not}
use mathlib.Core.List.{List}
use mathlib.Core.Path.{◌≡◌, refl, ap, ◌∙◌, subst⁻¹}
use Prim.Native.Nat.{ℕ, suc, ◌<◌, ◌≤◌}
use native.Mathlib.Omega.{arith}
use borrow.Author.Tests.{eq-eqb, eqb-false, eqb-true, le-ltb, leb-false, ltb-false, lt-leb, ne_eqb, not-false}
use lib.Dec.{eqb, leb, ltb}
use lib.ListN.{length, take}
use lib.Seq.{length-take-le}
use Rattle.tables.proofs.CheckLaws.{caught_by, inside, length_checked, messages_checked, not_short, passed, processes_checked}
use Rattle.tables.proofs.CheckLaws.{quiet_none, quiet_number, table_refusals}
use Rattle.tables.proofs.CodingLaws.{AreBytes, Fits16, decode-encode, encode-decode}
use Rattle.tables.proofs.FormatLaws.{decode-messages, decode-processes, encode-length, sizes_in}
use Rattle.tables.proofs.ListLaws.{any_none, none_of, or_false_left, or_false_right}
use Rattle.tables.proofs.NumberLaws.{number_at-take}
use Rattle.tables.proofs.TurnLaws.{turns_quiet, turns_read}
use Rattle.tables.specs.Checks.{Accepted, ChannelsInTurn, GoodMessage, Limits, Orderly, WellFormed, bad_count, bad_length, bad_process_count}
use Rattle.tables.specs.Checks.{bad_receipt, bad_send, first_caught, outside, table_checks, table_refusal, to_itself, too_many_messages, unknown_process}
use Rattle.tables.specs.Format.{decode, encode, largest_table, messages_in, processes_in, table_length}
use Rattle.tables.specs.Lists.{any}
use Rattle.tables.specs.Table.{Message, Table, count_of, message_count, message_of, most_checkpoints, most_messages, most_processes, no_message, process_count}

-- a number that is not outside its limit
within-positive : (limit n : ℕ) → outside limit n ≡ false → 0 < n
unfolding outside
within-positive limit n e = omega (arith, eqb-false n 0 (or_false_left (eqb n 0) (ltb limit n) e))

within_limit : (limit n : ℕ) → outside limit n ≡ false → n ≤ limit
unfolding outside
within_limit limit n e = ltb-false limit n (or_false_right (eqb n 0) (ltb limit n) e)

-- the tests of one message, and what it satisfies
module _ (t : Table) (m : Message) where
  good_message : unknown_process (process_count t) m ≡ false → to_itself m ≡ false → bad_send t m ≡ false → bad_receipt t m ≡ false
      → GoodMessage t m
  unfolding unknown_process to_itself bad_send bad_receipt
  good_message e6 e7 e8 e9 = record {
    sender_known = leb-false (process_count t) m.sender (or_false_left (leb (process_count t) m.sender) (leb (process_count t) m.receiver) e6);
    receiver_known = leb-false (process_count t) m.receiver (or_false_right (leb (process_count t) m.sender) (leb (process_count t) m.receiver) e6);
    two_processes = eqb-false m.sender m.receiver e7;
    sent_below = leb-false (count_of t m.sender) m.sent e8;
    received-within = ltb-false (count_of t m.receiver) m.received e9;
  }

  quiet_message : GoodMessage t m
      → (unknown_process (process_count t) m ≡ false) × (to_itself m ≡ false) × (bad_send t m ≡ false) × (bad_receipt t m ≡ false)
  unfolding unknown_process to_itself bad_send bad_receipt
  quiet_message g = (
    rw (lt-leb (process_count t) m.sender g.sender_known, lt-leb (process_count t) m.receiver g.receiver_known),
    ne_eqb m.sender m.receiver g.two_processes,
    lt-leb (count_of t m.sender) m.sent g.sent_below,
    le-ltb (count_of t m.receiver) m.received g.received-within,
  )

module _ (bytes : List ℕ) where
  abbrev t : Table
  t = decode bytes

  -- what the ten checks leave, put together
  sizes_right : bad_length bytes ≡ false → length bytes ≡ table_length (process_count t) (message_count t)
  unfolding bad_length
  sizes_right e =
      let size = table_length (processes_in bytes) (messages_in bytes) in
      rw (decode-processes bytes, decode-messages bytes) (eqb-true (length bytes) size (not-false (eqb (length bytes) size) e))

  process_count_lem : bad_process_count bytes ≡ false → outside most_processes (process_count t) ≡ false
  unfolding bad_process_count
  process_count_lem e = rw (decode-processes bytes) e

  message_count_lem : too_many_messages bytes ≡ false → message_count t ≤ most_messages
  unfolding too_many_messages
  message_count_lem e = rw (decode-messages bytes) (ltb-false most_messages (messages_in bytes) e)

  each_count : any bad_count t.counts ≡ false → (p : ℕ) → p < process_count t → outside most_checkpoints (count_of t p) ≡ false
  unfolding process_count count_of bad_count
  each_count e p l = none_of bad_count t.counts 0 e p l

  each_message : (test : Message → Bool) → any test t.messages ≡ false → (k : ℕ) → k < message_count t → test (message_of t k) ≡ false
  unfolding message_count message_of
  each_message test e k l = none_of test t.messages no_message e k l

  pub facts : table_refusal bytes ≡ 0 → Accepted bytes
  unfolding table_refusal table_checks caught_by
  facts accepted =
      let by = quiet_number (table_checks bytes) (table_refusals bytes) accepted in
      record {
        whole = sizes_right (by 4);
        well_formed = record {
          some_process = within-positive most_processes (process_count t) (process_count_lem (by 2));
          some_checkpoint = λ p l. within-positive most_checkpoints (count_of t p) (each_count (by 5) p l);
          good_messages = λ k l.
              good_message t (message_of t k) (each_message (unknown_process (process_count t)) (by 6) k l) (each_message to_itself (by 7) k l)
              (each_message (bad_send t) (by 8) k l) (each_message (bad_receipt t) (by 9) k l);
        };
        in_turn = turns_read t (by 23);
        limits = record {
          processes_limit = within_limit most_processes (process_count t) (process_count_lem (by 2));
          messages_limit = message_count_lem (by 3);
          counts_limit = λ p l. within_limit most_checkpoints (count_of t p) (each_count (by 5) p l);
        };
      }

  -- ---- the other way
  no_message_lem : (test : Message → Bool) → ((k : ℕ) → k < message_count t → test (message_of t k) ≡ false) → any test t.messages ≡ false
  unfolding message_count message_of
  no_message_lem test h = any_none test t.messages no_message h

  no_count : ((p : ℕ) → p < process_count t → outside most_checkpoints (count_of t p) ≡ false) → any bad_count t.counts ≡ false
  unfolding process_count count_of bad_count
  no_count h = any_none bad_count t.counts 0 h

  module _ (a : Accepted bytes) where
    whole : length bytes ≡ table_length (processes_in bytes) (messages_in bytes)
    whole = rw (← decode-processes bytes, ← decode-messages bytes) a.whole

    processes_good : bad_process_count bytes ≡ false
    processes_good =
        processes_checked (sizes_in bytes)
        ∙ inside most_processes (processes_in bytes) (λ z. omega (arith, z, a.well_formed.some_process, decode-processes bytes))
        (omega (arith, a.limits.processes_limit, decode-processes bytes))

    messages_good : too_many_messages bytes ≡ false
    messages_good =
        messages_checked (sizes_in bytes)
        ∙ le-ltb most_messages (messages_in bytes) (omega (arith, a.limits.messages_limit, decode-messages bytes))

    length_good : bad_length bytes ≡ false
    length_good = length_checked (sizes_in bytes) ∙ ap not (eq-eqb (length bytes) (table_length (processes_in bytes) (messages_in bytes)) whole)

    pub orderly : Orderly (decode bytes)
    orderly = record { well_formed = a.well_formed; in_turn = a.in_turn }

    pub refusal_zero : table_refusal bytes ≡ 0
    unfolding table_refusal table_checks
    refusal_zero =
        let good = a.well_formed.good_messages in
        let some = a.well_formed.some_checkpoint in
        passed _ _ _ (not_short bytes (omega (arith, whole)))
        (passed _ _ _ processes_good
        (passed _ _ _ messages_good
        (passed _ _ _ length_good
        (passed _ _ _ (no_count (λ p l. inside most_checkpoints (count_of t p) (λ z. omega (arith, z, some p l)) (a.limits.counts_limit p l)))
        (passed _ _ _ (no_message_lem (unknown_process (process_count t)) (λ k l. (quiet_message t (message_of t k) (good k l)).0))
        (passed _ _ _ (no_message_lem to_itself (λ k l. (quiet_message t (message_of t k) (good k l)).1))
        (passed _ _ _ (no_message_lem (bad_send t) (λ k l. (quiet_message t (message_of t k) (good k l)).2))
        (passed _ _ _ (no_message_lem (bad_receipt t) (λ k l. (quiet_message t (message_of t k) (good k l)).3))
        (passed _ _ _ (turns_quiet t a.in_turn)
        quiet_none)))))))))

    -- an accepted table's bytes, read and written again
    pub rewritten : AreBytes bytes → encode (decode bytes) ≡ bytes
    rewritten b = encode-decode bytes whole b

-- ---- a well formed table within the limits, written
module _ (t : Table) (w : WellFormed t) (l : Limits t) where
  count_small : (p : ℕ) → p < process_count t → count_of t p < 65536
  count_small p b = omega (arith, l.counts_limit p b)

  pub numbers_fit : Fits16 t
  numbers_fit = record {
    processes_fit = omega (arith, l.processes_limit);
    messages_fit = omega (arith, l.messages_limit);
    counts_fit = count_small;
    senders_fit = λ k b. omega (arith, w.good_messages k b, l.processes_limit);
    sent_fit = λ k b. omega (arith, (w.good_messages k b).sent_below, count_small (message_of t k).sender (w.good_messages k b).sender_known);
    receivers_fit = λ k b. omega (arith, w.good_messages k b, l.processes_limit);
    received_fit = λ k b. omega (arith, (w.good_messages k b).received-within, count_small (message_of t k).receiver (w.good_messages k b).receiver_known);
  }

  pub reread : decode (encode t) ≡ t
  reread = decode-encode t numbers_fit

pub accepted_encode : (t : Table) → Orderly t → Limits t → Accepted (encode t)
accepted_encode t o l =
    let back = reread t o.well_formed l in
    record {
      whole = subst⁻¹ (λ (x : Table). length (encode t) ≡ table_length (process_count x) (message_count x)) back (encode-length t);
      well_formed = subst⁻¹ WellFormed back o.well_formed;
      in_turn = subst⁻¹ ChannelsInTurn back o.in_turn;
      limits = subst⁻¹ Limits back l;
    }

-- ---- an input that is longer than the largest table: 2, 3 or 4 catches it, and its front too, where that is longer
long_refused : (bytes : List ℕ) → largest_table < length bytes
    → table_refusal bytes ≡ suc (cond (bad_process_count bytes) 1 (cond (too_many_messages bytes) 2 3))
unfolding table_refusal table_checks first_caught bad_process_count too_many_messages bad_length
long_refused bytes long = rw (not_short bytes (omega (arith, long))) (go (bad_process_count bytes) (too_many_messages bytes) refl refl _) where
  go : (n m : Bool) → bad_process_count bytes ≡ n → too_many_messages bytes ≡ m → (rest : ℕ)
      → cond n 2 (cond m 3 (cond (bad_length bytes) 4 rest)) ≡ suc (cond n 1 (cond m 2 3))
  go true m e f rest = refl
  go false true e f rest = refl
  go false false e f rest =
      let n = within_limit most_processes (processes_in bytes) e in
      let m = ltb-false most_messages (messages_in bytes) f in
      rw (ne_eqb (length bytes) (table_length (processes_in bytes) (messages_in bytes)) (λ same. omega (arith, same, long, n, m)))

pub front_refused : (input : List ℕ) (room : ℕ) → largest_table < room → room ≤ length input
    → (n : ℕ) × (table_refusal (take room input) ≡ suc n) × (table_refusal input ≡ suc n)
unfolding bad_process_count too_many_messages processes_in messages_in
front_refused input room long read =
    let front = long_refused (take room input) (omega (arith, long, length-take-le room input read)) in
    let n = number_at-take 2 room input 0 (omega (arith, long)) in
    (_, rw (n, number_at-take 2 room input 2 (omega (arith, long))) at front, long_refused input (omega (arith, long, read)))
