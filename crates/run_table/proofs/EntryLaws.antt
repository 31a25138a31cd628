-- The checks in terms of the parts of a table's bytes.
--     refused_count .. refused_message    checks 5 to 9 and 23, as the code finds them
--     refused_short .. refused_parts  the refusal, as the code finds it; checks 5 to 9 and 23 on the parts are the document's, on the decoded table
-- Assumes nothing.
use mathlib.Core.Bool.{Bool, true, false, not, ◌||◌}
use mathlib.Core.List.{List, [], ◌∷◌, ◌++◌}
use mathlib.Core.Path.{◌≡◌, refl, sym, ap, ◌∙◌}
use Prim.Native.Nat.{ℕ, ◌-◌, ◌*◌, ◌<◌, ◌≤◌}
use native.Mathlib.Omega.{arith}
use borrow.Author.Tests.{leb-false, lt-ltb, le-ltb, eq-eqb, ne_eqb}
use lib.Dec.{leb, ltb}
use lib.ListN.{length, take, drop}
use Rattle.run_table.proofs.FaultLaws.{none_caught, number-there, number_at, place_within, quiet_at}
use Rattle.run_table.specs.EntryChecks.{FirstMessage, MessageCheck, above_at, bad_count_at, checks_below, first_place, message_checks, not_below_at, no_fault}
use Rattle.run_table.specs.EntryChecks.{refusal_at}
use Rattle.tables.specs.Refusals.{refusal_number}
use Rattle.tables.specs.declared.refusal.Refusal.{Refusal}
use Rattle.run_table.specs.EntryChecks.{parts_refusal, to_itself_at, unknown_at}
use Rattle.tables.proofs.CheckLaws.{append_passed, are_refusals, length_checked, messages_checked, not_short, passed, processes_checked, quiet_none, stopped}
use Rattle.tables.proofs.FormatLaws.{ReadSizes, decode_count, decode_message, decode-messages, decode-processes}
use Rattle.tables.proofs.ListLaws.{any-tabulate, any_below_ext, any_below_or, none_below, or_false_left, or_false_right}
use Rattle.tables.proofs.TurnLaws.{broken_ext, broken_on}
use Rattle.tables.specs.Checks.{Check, bad_count, bad_length, bad_process_count, bad_receipt, bad_send, broken_below, broken_channel, first_caught, outside}
use Rattle.tables.specs.Checks.{table_checks, table_refusal, to_itself, too_many_messages, too_short, unknown_process}
use Rattle.tables.specs.Format.{checkpoint_at, count_at, counts_at, counts_part, decode, message_at, messages_in}
use Rattle.tables.specs.Format.{process_at, processes_in, receipts_at, receipts_part, sends_at, sends_part, table_length}
use Rattle.tables.specs.Lists.{any, any_below}
use Rattle.tables.specs.Table.{Message, Table, count_of, most_messages, most_processes, process_count}

-- two lists that begin with one test and agree once it catches nothing
same_check : (a b : Bool) (n : ℕ) (rest rest' : List Check) → a ≡ b → (b ≡ false → first_caught rest ≡ first_caught rest')
    → first_caught (record { caught = a; number = n } ∷ rest) ≡ first_caught (record { caught = b; number = n } ∷ rest')
unfolding first_caught
same_check a b n rest rest' e later = ap (λ (x : Bool). first_caught (record { caught = x; number = n } ∷ rest)) e ∙ go b later
  where
    go : (x : Bool) → (x ≡ false → first_caught rest ≡ first_caught rest')
        → first_caught (record { caught = x; number = n } ∷ rest) ≡ first_caught (record { caught = x; number = n } ∷ rest')
    go true f = refl
    go false f = f refl

-- one check of two tests, as two checks of one number, where the rest agrees once neither catches
split_check : (c a b : Bool) (n : ℕ) (rest rest' : List Check) → c ≡ (a || b) → ((a || b) ≡ false → first_caught rest ≡ first_caught rest')
    → first_caught (record { caught = c; number = n } ∷ rest)
    ≡ first_caught (record { caught = a; number = n } ∷ record { caught = b; number = n } ∷ rest')
unfolding first_caught
split_check c a b n rest rest' e later = ap (λ (x : Bool). first_caught (record { caught = x; number = n } ∷ rest)) e ∙ go a b later
  where
    go : (x y : Bool) → ((x || y) ≡ false → first_caught rest ≡ first_caught rest')
        → first_caught (record { caught = x || y; number = n } ∷ rest)
        ≡ first_caught (record { caught = x; number = n } ∷ record { caught = y; number = n } ∷ rest')
    go true y f = refl
    go false true f = refl
    go false false f = f refl

-- ---- checks 5 to 9 and 23 of the decoded table, in terms of the parts of its bytes
module _ (bytes : List ℕ) where
  abbrev N : ℕ
  N = processes_in bytes

  abbrev M : ℕ
  M = messages_in bytes

  abbrev t : Table
  t = decode bytes

  abbrev message : ℕ → Message
  message = message_at (sends_part bytes) (receipts_part bytes)

  any_message : (test : Message → Bool) → any test t.messages ≡ any_below M (λ k. test (message k))
  unfolding decode
  any_message test = any-tabulate test M message

  check_5 : any bad_count t.counts ≡ any_below N (bad_count_at (counts_part bytes))
  unfolding decode bad_count_at
  check_5 = any-tabulate bad_count N (count_at (counts_part bytes))

  check_6 : any (unknown_process (process_count t)) t.messages
      ≡ (any_below M (unknown_at N (sends_part bytes)) || any_below M (unknown_at N (receipts_part bytes)))
  unfolding unknown_process unknown_at message_at
  check_6 =
      any_message (unknown_process (process_count t))
      ∙ ap (λ (n : ℕ). any_below M (λ k. unknown_process n (message k))) (decode-processes bytes)
      ∙ any_below_or (unknown_at N (sends_part bytes)) (unknown_at N (receipts_part bytes)) M

  check_7 : any to_itself t.messages ≡ any_below M (to_itself_at (sends_part bytes) (receipts_part bytes))
  unfolding to_itself to_itself_at message_at
  check_7 = any_message to_itself

  -- the count of a known process is that of the bytes
  count_at_lem : (part : List ℕ) → any_below M (unknown_at N part) ≡ false → (k : ℕ) → k < M
      → count_of t (process_at part k) ≡ count_at (counts_part bytes) (process_at part k)
  unfolding unknown_at
  count_at_lem part none k l =
      decode_count bytes (process_at part k) (leb-false N (process_at part k) (none_below (unknown_at N part) M none k l))

  -- a test of the count of an entry's process and of the entry's number
  number_check : (bad : Message → Bool) (test : ℕ → ℕ → Bool) (part : List ℕ)
      → ((k : ℕ) → bad (message k) ≡ test (count_of t (process_at part k)) (checkpoint_at part k)) → any_below M (unknown_at N part) ≡ false
      → any bad t.messages ≡ any_below M (λ k. test (count_at (counts_part bytes) (process_at part k)) (checkpoint_at part k))
  number_check bad test part is none =
      any_message bad
      ∙ any_below_ext (λ k. bad (message k)) (λ k. test (count_at (counts_part bytes) (process_at part k)) (checkpoint_at part k)) M
      (λ k l. is k ∙ ap (λ (c : ℕ). test c (checkpoint_at part k)) (count_at_lem part none k l))

  check_8 : any_below M (unknown_at N (sends_part bytes)) ≡ false
      → any (bad_send t) t.messages ≡ any_below M (not_below_at (counts_part bytes) (sends_part bytes))
  unfolding bad_send message_at not_below_at
  check_8 = number_check (bad_send t) leb (sends_part bytes) (λ k. refl)

  check_9 : any_below M (unknown_at N (receipts_part bytes)) ≡ false
      → any (bad_receipt t) t.messages ≡ any_below M (above_at (counts_part bytes) (receipts_part bytes))
  unfolding bad_receipt message_at above_at
  check_9 = number_check (bad_receipt t) ltb (receipts_part bytes) (λ k. refl)

  check_23 : broken_channel t ≡ broken_below M message
  unfolding broken_channel
  check_23 = broken_ext (decode-messages bytes) (decode_message bytes)

  -- where the sizes are right, the refusal is that of the parts
  parts_refusal_lem : too_short bytes ≡ false → bad_process_count bytes ≡ false → too_many_messages bytes ≡ false → bad_length bytes ≡ false
      → table_refusal bytes ≡ parts_refusal N M (counts_part bytes) (sends_part bytes) (receipts_part bytes)
  unfolding table_refusal table_checks
  parts_refusal_lem e1 e2 e3 e4 =
      let senders = any_below M (unknown_at N (sends_part bytes)) in
      let receivers = any_below M (unknown_at N (receipts_part bytes)) in
      passed _ _ _ e1 (passed _ _ _ e2 (passed _ _ _ e3 (passed _ _ _ e4
      (same_check _ _ _ _ _ check_5 (λ _.
      split_check _ _ _ _ _ _ check_6 (λ known.
      same_check _ _ _ _ _ check_7 (λ _.
      same_check _ _ _ _ _ (check_8 (or_false_left senders receivers known)) (λ _.
      same_check _ _ _ _ _ (check_9 (or_false_right senders receivers known)) (λ _.
      same_check _ _ _ _ _ check_23 (λ _. refl))))))))))

-- ---- checks 5 to 9 and 23, in the code's course
module _ (n m : ℕ) (counts sends receipts : List ℕ) where
  abbrev messages : List Check
  messages = checks_below (message_checks n counts sends receipts) m

  abbrev turn : Check
  turn = record { caught = broken_below m (message_at sends receipts); number = 23 }

  pub refused_count : any_below n (bad_count_at counts) ≡ true → 5 ≡ parts_refusal n m counts sends receipts
  refused_count bad = sym (stopped _ _ bad)

  module _ (quiet : any_below n (bad_count_at counts) ≡ false) {k : ℕ}
      (first : FirstMessage (message_checks n counts sends receipts) (message_at sends receipts) m k) where
    abbrev checks : List MessageCheck
    checks = message_checks n counts sends receipts

    -- message k is: by a check of messages, or else it is out of turn
    broken : k < m → first_place messages ≡ no_fault → broken_below m (message_at sends receipts) ≡ true
    broken below none = broken_on (message_at sends receipts) below (first.caught below (quiet_at checks below none))

    pub refused_message : k < m → {refusal : Refusal} → refusal ≡ refusal_at (first_place messages)
        → refusal_number refusal ≡ parts_refusal n m counts sends receipts
    refused_message below is =
        ap refusal_number is ∙ number_at (first_place messages) (place_within messages)
        ∙ sym (passed _ (messages ++ (turn ∷ [])) _ quiet (number-there messages turn (broken below)))

  -- no message is caught
  pub refused_nothing : any_below n (bad_count_at counts) ≡ false
      → FirstMessage (message_checks n counts sends receipts) (message_at sends receipts) m m → 0 ≡ parts_refusal n m counts sends receipts
  unfolding are_refusals
  refused_nothing quiet first =
      sym (passed _ (messages ++ (turn ∷ [])) _ quiet (append_passed messages (turn ∷ []) refl (none_caught messages first.quiet)
      ∙ passed _ _ _ first.in_turn quiet_none))

-- ---- the refusal of bytes, in the code's course
pub refused_short : (bytes : List ℕ) → length bytes < 4 → 1 ≡ table_refusal bytes
unfolding table_refusal table_checks too_short
refused_short bytes l = sym (stopped _ _ (lt-ltb (length bytes) 4 l))

module _ {bytes : List ℕ} {n m : ℕ} (read : ReadSizes bytes n m) (long : 4 ≤ length bytes) where
  pub refused_processes : outside most_processes n ≡ true → 2 ≡ table_refusal bytes
  unfolding table_refusal table_checks
  refused_processes out = sym (passed _ _ _ (not_short bytes long) (stopped _ _ (processes_checked read ∙ out)))

  module _ (some : outside most_processes n ≡ false) where
    pub refused_messages : most_messages < m → 3 ≡ table_refusal bytes
    unfolding table_refusal table_checks
    refused_messages many =
        sym (passed _ _ _ (not_short bytes long) (passed _ _ _ (processes_checked read ∙ some)
        (stopped _ _ (messages_checked read ∙ lt-ltb most_messages m many))))

    module _ (few : m ≤ most_messages) {size : ℕ} (is-size : size ≡ table_length n m) where
      pub refused_length : (length bytes ≡ size → ⊥) → 4 ≡ table_refusal bytes
      unfolding table_refusal table_checks
      refused_length other =
          let wrong = ap not (ne_eqb (length bytes) (table_length n m) (λ e. other (e ∙ sym is-size))) in
          sym (passed _ _ _ (not_short bytes long) (passed _ _ _ (processes_checked read ∙ some)
          (passed _ _ _ (messages_checked read ∙ le-ltb most_messages m few) (stopped _ _ (length_checked read ∙ wrong)))))

      -- the parts as the code takes them, from a start to an end
      pub refused_parts : length bytes ≡ size → {s r : ℕ} → s ≡ sends_at n → r ≡ receipts_at n m
          → parts_refusal n m (take (s - counts_at) (drop counts_at bytes)) (take (r - s) (drop s bytes)) (take (length bytes - r) (drop r bytes))
          ≡ table_refusal bytes
      unfolding counts_part sends_part receipts_part messages_in processes_in
      refused_parts whole {s} {r} is-s is-r =
          let counts : s - counts_at ≡ 2 * n = omega arith in
          let sends : r - s ≡ 4 * m = omega arith in
          let receipts : length bytes - r ≡ 4 * m = omega arith in
          let right = ap not (eq-eqb (length bytes) (table_length n m) (whole ∙ is-size)) in
          rw (counts, sends, receipts, is-s, is-r, read.n_is, read.m_is)
          (sym (parts_refusal_lem bytes (not_short bytes long) (processes_checked read ∙ some) (messages_checked read ∙ le-ltb most_messages m few)
          (length_checked read ∙ right)))
