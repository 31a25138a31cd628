-- Laws of the steps: what each one does, that each leaves a well formed table well formed, and that none puts the recovery line back.
--     send-processes .. send_message_new, sent_since   the table after a send; its message was sent after the last checkpoint
--     send_each, send_pairs                            what holds of the old messages and of the new one holds of all; of each two
--     quiet_send, send_quiet                           what it means that nothing catches a send
--     Waiting, waits_for_lem .. waiting_position           the positions that a receipt or a checkpoint may list
--     rising                                           the order of a list that is rising
--     received_at_listed .. received_at_sent             a message after it
--     receipt_known .. receipt_quiet                   what it means that nothing catches it: 10, 13 and 24
--     nothing_quiet                                    nothing catches one of no messages
--     Receives, receipt_receives, checkpoint_receives  what both leave: the listed messages received, at no lower counts
--     receives_messages .. receives_each               its messages; what holds of the listed ones, received, and of the old ones holds of all
--     receipt_count .. checkpoint_count_here           the counts after a receipt, and after a checkpoint
--     recovery_latest, recovery_length                 the recovery line
--     put_back_after .. put_back_receiver, stays_sent      a message that is put back; one that stays
--     rollback-processes .. rollback_fewer             the sizes and the counts after a rollback
--     rollback_each, rollback_pairs                    each message comes from one that stays, and each two from two in their order
--     rollback_place, rollback_message, rollback_order    where one that stays goes, in order
--     step_cases, send_step .. rollback_step           a step that is caught leaves the table as it is, any other the one whose bytes its call answers
--     step_each                                        what holds after every step
--     receipt_of_nothing                               one of no messages leaves the table
--     step_well_formed                                 steps keep tables well formed
--     Turn, waiting_turn .. put_back_turn              two messages of a channel stay in turn when received, and when put back
--     step_orderly                                     so steps keep tables orderly
--     send_limits .. rollback_limits                   when they keep tables within the limits
--     rollback_line                                    a rollback leaves the recovery line where it is
--     line_never_back                                  no step puts it back
-- Assumes nothing.
use mathlib.Core.Bool.{Bool, true, false, cond, not, ◌||◌, false≢true}
use mathlib.Core.List.{List, [], ◌∷◌, ◌++◌, map}
use mathlib.Core.Logic.{◌↔◌}
use mathlib.Core.Path.{◌≡◌, refl, sym, ap, ◌∙◌, subst, subst⁻¹}
use Prim.Native.Nat.{ℕ, zero, suc, ◌+◌, ◌-◌, ◌≤◌, ◌<◌, suc-le-suc}
use native.Mathlib.Decide.{dec_lt, ℕ_discrete}
use native.Mathlib.Nat.{le_of_suc-le-suc, le_refl, not-suc-le-zero}
use native.Mathlib.Omega.{arith}
use borrow.Author.Tests.{eq-eqb, eqb-false, eqb-true, le-ltb, leb-false, lt-leb, lt-ltb, ltb-true, ne_eqb, not-false}
use lib.Dec.{eqb, leb}
use lib.ListN.{length, get_or, take, drop, length-append, length-map, length-set, length-take, get_or-append}
use lib.Seq.{ext_get_or, get_or-append_seam, get_or-set_other, get_or-set_same, get_or-take, split_at, take-take}
use Rattle.consistency.proofs.CeilingLaws.{ceiling_at_lem, set-latest, set-length}
use Rattle.consistency.proofs.LineLaws.{latest_same}
use Rattle.consistency.specs.Ceilings.{ceiling_of, line_of, recovery_line}
use Rattle.consistency.specs.Lines.{AtOrBelow, Latest, Orphan, as_line}
use Rattle.steps.proofs.OrderLaws.{OlderListed, none_passed, passes_none}
use Rattle.steps.specs.Steps.{Step, after_checkpoint, after_receipt, after_rollback, after_send, bad_position, checkpoint, new_message, not_rising}
use Rattle.steps.specs.Steps.{not_rising_after, passes_over, put_back, receipt_checks, receive, received_at, remaining, rollback, send, send_checks, stays}
use Rattle.steps.specs.Steps.{step, unless_caught, waits_for}
use Rattle.tables.proofs.CheckLaws.{passed, quiet_cons, quiet_none}
use Rattle.tables.proofs.FormatLaws.{count_beyond, message_beyond}
use Rattle.tables.proofs.ListLaws.{and_left, and_right, any_none, get_or_tabulate, length-tabulate, or_false_left, or_false_right}
use Rattle.tables.proofs.TurnLaws.{one_channel, undelivered_waits, waits_undelivered}
use Rattle.tables.specs.Checks.{ChannelsInTurn, Check, GoodMessage, InTurn, Limits, Orderly, WellFormed, first_caught, same_channel, waits}
use Rattle.tables.specs.Lists.{any}
use Rattle.tables.specs.Table.{Message, Table, count_of, message_count, message_of, most_checkpoints, most_messages, no_message, process_count}
use Rattle.tables.specs.Table.{with_messages, with_receipt}

-- ---- send
module _ (t : Table) (j i : ℕ) where
  pub send-processes : process_count (after_send t j i) ≡ process_count t
  unfolding after_send process_count
  send-processes = refl

  pub send_count : (p : ℕ) → count_of (after_send t j i) p ≡ count_of t p
  unfolding after_send count_of
  send_count p = refl

  pub send-messages : message_count (after_send t j i) ≡ message_count t + 1
  unfolding after_send message_count
  send-messages = length-append t.messages _

  pub send_message_old : (k : ℕ) → k < message_count t → message_of (after_send t j i) k ≡ message_of t k
  unfolding after_send message_count message_of
  send_message_old k l = get_or-append t.messages _ no_message k l

  pub send_message_new : message_of (after_send t j i) (message_count t) ≡ new_message t j i
  unfolding after_send message_count message_of
  send_message_new = get_or-append_seam t.messages _ [] no_message

  -- one that is sent stays over a rollback just where the line has its sender's virtual checkpoint: it was sent after the last one
  pub sent_since : 0 < count_of t j → (l : List ℕ) → (stays l (new_message t j i) ≡ true) ↔ (count_of t j ≤ as_line l j)
  unfolding stays
  sent_since some l =
      let sent = (new_message t j i).sent in
      (λ e. omega (arith, ltb-true sent (as_line l j) e), λ h. lt-ltb sent (as_line l j) (omega arith))

  pub send_each : (P : Message → Type 0) → ((k : ℕ) → k < message_count t → P (message_of t k)) → P (new_message t j i)
      → (k : ℕ) → k < message_count (after_send t j i) → P (message_of (after_send t j i) k)
  send_each P old new k l = go (dec_lt k (message_count t))
    where
      go : Dec (k < message_count t) → P (message_of (after_send t j i) k)
      go (yes b) = subst⁻¹ P (send_message_old k b) (old k b)
      go (no b) =
          let last : k ≡ message_count t = omega (arith, send-messages) in
          subst⁻¹ P (ap (message_of (after_send t j i)) last ∙ send_message_new) new

  pub send_pairs : (R : Message → Message → Type 0) → ((q k : ℕ) → q < k → k < message_count t → R (message_of t q) (message_of t k))
      → ((q : ℕ) → q < message_count t → R (message_of t q) (new_message t j i))
      → (q k : ℕ) → q < k → k < message_count (after_send t j i) → R (message_of (after_send t j i) q) (message_of (after_send t j i) k)
  send_pairs R old new q k before l = go (dec_lt k (message_count t))
    where
      go : Dec (k < message_count t) → R (message_of (after_send t j i) q) (message_of (after_send t j i) k)
      go (yes b) = rw (send_message_old q (omega arith), send_message_old k b) (old q k before b)
      go (no b) =
          let last : k ≡ message_count t = omega (arith, send-messages) in
          rw (send_message_old q (omega arith), ap (message_of (after_send t j i)) last ∙ send_message_new) (new q (omega arith))

  pub quiet_send : first_caught (send_checks t j i) ≡ 0 → (j < process_count t) × (i < process_count t) × (j ≡ i → ⊥)
  unfolding send_checks
  quiet_send quiet =
      let n = process_count t in
      let known = quiet_cons _ _ (omega arith) quiet in
      let two = quiet_cons _ _ (omega arith) known.1 in
      (leb-false n j (or_false_left (leb n j) (leb n i) known.0), leb-false n i (or_false_right (leb n j) (leb n i) known.0), eqb-false j i two.0)

  pub send_quiet : j < process_count t → i < process_count t → (j ≡ i → ⊥) → first_caught (send_checks t j i) ≡ 0
  unfolding send_checks
  send_quiet lj li two =
      let known : (leb (process_count t) j || leb (process_count t) i) ≡ false = rw (lt-leb (process_count t) j lj) (lt-leb (process_count t) i li) in
      passed _ _ 0 known (passed _ _ 0 (ne_eqb j i two) quiet_none)

-- ---- the list of a receipt, or of a checkpoint
-- The message at position k waits for process i.
pub record Waiting (t : Table) (i k : ℕ) : Type 0 where
  pub a_message : k < message_count t
  pub to_process : (message_of t k).receiver ≡ i
  pub undelivered : (message_of t k).received ≡ 0

module _ (t : Table) (i k : ℕ) where
  pub waits_for_lem : k < message_count t → waits_for i (message_of t k) ≡ true → Waiting t i k
  unfolding waits_for
  waits_for_lem l e =
      let to-i = eqb (message_of t k).receiver i in
      let none = waits (message_of t k) in
      record {
        a_message = l;
        to_process = eqb-true (message_of t k).receiver i (and_left to-i none e);
        undelivered = waits_undelivered (message_of t k) (and_right to-i none e);
      }

  pub good_position : bad_position t i k ≡ false → Waiting t i k
  unfolding bad_position
  good_position e =
      let beyond = leb (message_count t) k in
      let here = waits_for i (message_of t k) in
      waits_for_lem (leb-false (message_count t) k (or_false_left beyond (not here) e)) (not-false here (or_false_right beyond (not here) e))

  pub waiting_position : Waiting t i k → bad_position t i k ≡ false
  unfolding bad_position waits_for
  waiting_position w =
      rw (lt-leb (message_count t) k w.a_message, eq-eqb (message_of t k).receiver i w.to_process, undelivered_waits (message_of t k) w.undelivered)

-- a test that no entry passes fails at every listed number
listed_fails : (test : ℕ → Bool) (list : List ℕ) → any test list ≡ false → (k : ℕ) → any (eqb k) list ≡ true → test k ≡ false
unfolding any
listed_fails test [] e k h = absurd (false≢true h)
listed_fails test (x ∷ rest) e k h = go (eqb k x) refl h (listed_fails test rest (or_false_right (test x) (any test rest) e) k)
  where
    go : (b : Bool) → eqb k x ≡ b → (b || any (eqb k) rest) ≡ true → (any (eqb k) rest ≡ true → test k ≡ false) → test k ≡ false
    go true same h later = ap test (eqb-true k x same) ∙ or_false_left (test x) (any test rest) e
    go false other h later = later h

-- where a list goes on from k without a step back, its entries are above k, and it is rising
follows_above : (k : ℕ) (rest : List ℕ) → not_rising_after k rest ≡ false → (b : ℕ) → b < length rest → k < get_or rest b 0
unfolding not_rising_after
follows_above k [] e b l = absurd (not-suc-le-zero l)
follows_above k (next ∷ rest) e zero l = leb-false next k (or_false_left (leb next k) (not_rising_after next rest) e)
follows_above k (next ∷ rest) e (suc b) l =
    let here : k < next = leb-false next k (or_false_left (leb next k) (not_rising_after next rest) e) in
    omega (arith, follows_above next rest (or_false_right (leb next k) (not_rising_after next rest) e) b (le_of_suc-le-suc l))

follows_rising : (k : ℕ) (rest : List ℕ) → not_rising_after k rest ≡ false → not_rising rest ≡ false
unfolding not_rising_after not_rising
follows_rising k [] e = refl
follows_rising k (next ∷ rest) e = or_false_right (leb next k) (not_rising_after next rest) e

pub rising : (list : List ℕ) → not_rising list ≡ false → (a b : ℕ) → a < b → b < length list → get_or list a 0 < get_or list b 0
unfolding not_rising
rising [] e a b h l = absurd (not-suc-le-zero l)
rising (k ∷ rest) e a zero h l = absurd (not-suc-le-zero h)
rising (k ∷ rest) e zero (suc b) h l = follows_above k rest e b (le_of_suc-le-suc l)
rising (k ∷ rest) e (suc a) (suc b) h l = rising rest (follows_rising k rest e) a b (le_of_suc-le-suc h) (le_of_suc-le-suc l)

-- ---- receipt, and checkpoint
module _ (t : Table) (i : ℕ) (list : List ℕ) where
  -- a listed message is received at the count, and any other stays as it is
  module _ (k : ℕ) where
    pub received_at_listed : any (eqb k) list ≡ true → received_at t i list k ≡ with_receipt (message_of t k) (count_of t i)
    unfolding received_at
    received_at_listed e = rw e

    pub received_at_unlisted : any (eqb k) list ≡ false → received_at t i list k ≡ message_of t k
    unfolding received_at
    received_at_unlisted e = rw e

    received_at_cases : (P : Message → Type 0) → (any (eqb k) list ≡ true → P (with_receipt (message_of t k) (count_of t i))) → P (message_of t k)
        → P (received_at t i list k)
    received_at_cases P listed unlisted = go (any (eqb k) list) refl
      where
        go : (b : Bool) → any (eqb k) list ≡ b → P (received_at t i list k)
        go true e = subst⁻¹ P (received_at_listed e) (listed e)
        go false e = subst⁻¹ P (received_at_unlisted e) unlisted

    pub received_at_sender : (received_at t i list k).sender ≡ (message_of t k).sender
    received_at_sender = received_at_cases (λ m. m.sender ≡ (message_of t k).sender) (λ _. refl) refl

    pub received_at_sent : (received_at t i list k).sent ≡ (message_of t k).sent
    received_at_sent = received_at_cases (λ m. m.sent ≡ (message_of t k).sent) (λ _. refl) refl

  module _ (quiet : first_caught (receipt_checks t i list) ≡ 0) where
    quiet_list : (leb (process_count t) i ≡ false) × ((any (bad_position t i) list || not_rising list) ≡ false)
        × (any (passes_over t list) list ≡ false)
    unfolding receipt_checks
    quiet_list =
        let known = quiet_cons _ _ (omega arith) quiet in
        let listed = quiet_cons _ _ (omega arith) known.1 in
        (known.0, listed.0, (quiet_cons _ _ (omega arith) listed.1).0)

    pub receipt_known : i < process_count t
    receipt_known = leb-false (process_count t) i quiet_list.0

    pub receipt_positions : any (bad_position t i) list ≡ false
    receipt_positions = or_false_left (any (bad_position t i) list) (not_rising list) quiet_list.1

    pub receipt_passes_none : any (passes_over t list) list ≡ false
    receipt_passes_none = quiet_list.2

    pub receipt_waiting : (k : ℕ) → any (eqb k) list ≡ true → Waiting t i k
    receipt_waiting k listed = good_position t i k (listed_fails (bad_position t i) list receipt_positions k listed)

    pub receipt_older : (k : ℕ) → any (eqb k) list ≡ true → OlderListed t list k
    receipt_older k listed = passes_none t list k (listed_fails (passes_over t list) list receipt_passes_none k listed)

  pub receipt_quiet : i < process_count t → ((a : ℕ) → a < length list → Waiting t i (get_or list a 0)) → not_rising list ≡ false
      → ((a : ℕ) → a < length list → OlderListed t list (get_or list a 0)) → first_caught (receipt_checks t i list) ≡ 0
  unfolding receipt_checks
  receipt_quiet known waiting up older =
      let good : any (bad_position t i) list ≡ false = any_none (bad_position t i) list 0 (λ a l. waiting_position t i (get_or list a 0) (waiting a l)) in
      let good-list : (any (bad_position t i) list || not_rising list) ≡ false = rw good up in
      let none : any (passes_over t list) list ≡ false = any_none (passes_over t list) list 0 (λ a l. none_passed t list (get_or list a 0) (older a l)) in
      passed _ _ 0 (lt-leb (process_count t) i known) (passed _ _ 0 good-list (passed _ _ 0 none quiet_none))

-- nothing catches a receipt of nothing by a process of the table
pub nothing_quiet : (t : Table) (i : ℕ) → i < process_count t → first_caught (receipt_checks t i []) ≡ 0
unfolding not_rising
nothing_quiet t i known = receipt_quiet t i [] known (λ a l. absurd (not-suc-le-zero l)) refl (λ a l. absurd (not-suc-le-zero l))

-- What a receipt and a checkpoint leave: the messages of the receipt, as many processes, and no lower count.
pub record Receives (t : Table) (i : ℕ) (list : List ℕ) (t' : Table) : Type 0 where
  pub same_processes : process_count t' ≡ process_count t
  pub counts_grow : (p : ℕ) → count_of t p ≤ count_of t' p
  pub messages_are : t'.messages ≡ (after_receipt t i list).messages

module _ {t : Table} {i : ℕ} {list : List ℕ} {t' : Table} (r : Receives t i list t') where
  pub receives_messages : message_count t' ≡ message_count t
  unfolding message_count after_receipt
  receives_messages = ap length r.messages_are ∙ length-tabulate (length t.messages) (received_at t i list)

  pub receives_message : (k : ℕ) → k < message_count t → message_of t' k ≡ received_at t i list k
  unfolding message_of after_receipt
  receives_message k l =
      ap (λ (ms : List Message). get_or ms k no_message) r.messages_are ∙ get_or_tabulate (message_count t) (received_at t i list) k no_message l

  receives_each : (P : Message → Type 0)
      → ((k : ℕ) → k < message_count t → any (eqb k) list ≡ true → P (with_receipt (message_of t k) (count_of t i)))
      → ((k : ℕ) → k < message_count t → P (message_of t k)) → (k : ℕ) → k < message_count t' → P (message_of t' k)
  receives_each P listed unlisted k l =
      let b : k < message_count t = omega (arith, receives_messages) in
      subst⁻¹ P (receives_message k b) (received_at_cases t i list k P (listed k b) (unlisted k b))

module _ (t : Table) (i : ℕ) (list : List ℕ) where
  pub receipt_receives : Receives t i list (after_receipt t i list)
  unfolding after_receipt process_count count_of
  receipt_receives = record { same_processes = refl; counts_grow = λ p. le_refl (count_of t p); messages_are = refl }

  pub receipt_count : (p : ℕ) → count_of (after_receipt t i list) p ≡ count_of t p
  unfolding after_receipt count_of
  receipt_count p = refl

  pub checkpoint_count_other : (p : ℕ) → (p ≡ i → ⊥) → count_of (after_checkpoint t i list) p ≡ count_of t p
  unfolding after_checkpoint count_of
  checkpoint_count_other p other = get_or-set_other t.counts i p _ 0 other

  pub checkpoint_count_here : i < process_count t → count_of (after_checkpoint t i list) i ≡ count_of t i + 1
  unfolding after_checkpoint count_of process_count
  checkpoint_count_here l = get_or-set_same t.counts i _ 0 l

  pub checkpoint_receives : Receives t i list (after_checkpoint t i list)
  unfolding after_checkpoint process_count
  checkpoint_receives = record {
    same_processes = length-set t.counts i _;
    counts_grow = λ p. grows p (ℕ_discrete p i) (dec_lt i (process_count t));
    messages_are = refl;
  }
    where
      grows : (p : ℕ) → Dec (p ≡ i) → Dec (i < process_count t) → count_of t p ≤ count_of (after_checkpoint t i list) p
      grows p (yes e) (yes l) = subst⁻¹ (λ (q : ℕ). count_of t q ≤ count_of (after_checkpoint t i list) q) e (omega (arith, checkpoint_count_here l))
      grows p (yes e) (no l) = omega (arith, count_beyond t p (omega arith))
      grows p (no e) l = omega (arith, checkpoint_count_other p e)

-- ---- the recovery line
module _ (t : Table) where
  pub recovery_latest : Latest t.messages (λ p. count_of t p - 1) (as_line (recovery_line t))
  unfolding recovery_line
  recovery_latest =
      latest_same t.messages (as_line (ceiling_of t (λ p. true))) (λ p. count_of t p - 1) (as_line (line_of t (λ p. true)))
      (as_line (line_of t (λ p. true)))
      (ceiling_at_lem t (λ p. true)) (λ p. refl) (set-latest t (λ p. true))

  pub recovery_length : length (recovery_line t) ≡ process_count t
  unfolding recovery_line
  recovery_length = set-length t (λ p. true)

-- ---- rollback
module _ (l : List ℕ) (m : Message) where
  pub put_back_after : as_line l m.receiver < m.received → put_back l m ≡ with_receipt m 0
  unfolding put_back
  put_back_after h = ap (λ (b : Bool). cond b (with_receipt m 0) m) (lt-ltb (as_line l m.receiver) m.received h)

  pub put_back-before : m.received ≤ as_line l m.receiver → put_back l m ≡ m
  unfolding put_back
  put_back-before h = rw (le-ltb (as_line l m.receiver) m.received h)

  put_back_cases : (P : Message → Type 0) → P (with_receipt m 0) → (m.received ≤ as_line l m.receiver → P m) → P (put_back l m)
  put_back_cases P after before = go (dec_lt (as_line l m.receiver) m.received)
    where
      go : Dec (as_line l m.receiver < m.received) → P (put_back l m)
      go (yes h) = subst⁻¹ P (put_back_after h) after
      go (no h) = subst⁻¹ P (put_back-before (omega arith)) (before (omega arith))

  pub put_back_sender : (put_back l m).sender ≡ m.sender
  put_back_sender = put_back_cases (λ x. x.sender ≡ m.sender) refl (λ _. refl)

  pub put_back_sent : (put_back l m).sent ≡ m.sent
  put_back_sent = put_back_cases (λ x. x.sent ≡ m.sent) refl (λ _. refl)

  pub put_back_receiver : (put_back l m).receiver ≡ m.receiver
  put_back_receiver = put_back_cases (λ x. x.receiver ≡ m.receiver) refl (λ _. refl)

  pub stays_sent : stays l m ≡ true → m.sent < as_line l m.sender
  unfolding stays
  stays_sent e = ltb-true m.sent (as_line l m.sender) e

-- the first message of a list stays or goes
module _ (l : List ℕ) (m : Message) (rest : List Message) where
  first_stays : stays l m ≡ true → remaining l (m ∷ rest) ≡ put_back l m ∷ remaining l rest
  unfolding remaining
  first_stays e = rw e

  first_goes : stays l m ≡ false → remaining l (m ∷ rest) ≡ remaining l rest
  unfolding remaining
  first_goes e = rw e

module _ (l : List ℕ) where
  pub remaining-append : (xs ys : List Message) → remaining l (xs ++ ys) ≡ remaining l xs ++ remaining l ys
  unfolding remaining
  remaining-append [] ys = refl
  remaining-append (m ∷ rest) ys = go (stays l m) (remaining-append rest ys)
    where
      go : (b : Bool) → remaining l (rest ++ ys) ≡ remaining l rest ++ remaining l ys
          → cond b (put_back l m ∷ remaining l (rest ++ ys)) (remaining l (rest ++ ys))
          ≡ cond b (put_back l m ∷ remaining l rest) (remaining l rest) ++ remaining l ys
      go true e = ap (λ (x : List Message). put_back l m ∷ x) e
      go false e = e

  remaining_fewer : (ms : List Message) → length (remaining l ms) ≤ length ms
  unfolding remaining
  remaining_fewer [] = omega arith
  remaining_fewer (m ∷ rest) = go (stays l m) (remaining_fewer rest)
    where
      go : (b : Bool) → length (remaining l rest) ≤ length rest
          → length (cond b (put_back l m ∷ remaining l rest) (remaining l rest)) ≤ suc (length rest)
      go true h = omega arith
      go false h = omega arith

  -- an entry comes from a message that stays
  abbrev From : List Message → ℕ → Type 0
  From ms k' = (k : ℕ) × (k < length ms) × (stays l (get_or ms k no_message) ≡ true)
      × (get_or (remaining l ms) k' no_message ≡ put_back l (get_or ms k no_message))

  from_rest : (m : Message) (rest : List Message) (k k' : ℕ) → get_or (remaining l (m ∷ rest)) k' no_message ≡ get_or (remaining l rest) k no_message
      → From rest k → From (m ∷ rest) k'
  from_rest m rest k k' e found = (suc found.0, omega (arith, found.1), found.2, e ∙ found.3)

  remaining_from : (ms : List Message) (k' : ℕ) → k' < length (remaining l ms) → From ms k'
  unfolding remaining
  remaining_from [] k' h = absurd (not-suc-le-zero h)
  remaining_from (m ∷ rest) k' h = go (stays l m) refl (remaining_from rest) k' h
    where
      go : (b : Bool) → stays l m ≡ b → ((k' : ℕ) → k' < length (remaining l rest) → From rest k')
          → (k' : ℕ) → k' < length (remaining l (m ∷ rest)) → From (m ∷ rest) k'
      go true e found zero h = (zero, omega arith, e, ap (λ (x : List Message). get_or x 0 no_message) (first_stays l m rest e))
      go true e found (suc k') h =
          from_rest m rest k' (suc k') (ap (λ (x : List Message). get_or x (suc k') no_message) (first_stays l m rest e))
          (found k' (le_of_suc-le-suc (subst (λ (x : List Message). suc k' < length x) (first_stays l m rest e) h)))
      go false e found k' h =
          from_rest m rest k' k' (ap (λ (x : List Message). get_or x k' no_message) (first_goes l m rest e))
          (found k' (subst (λ (x : List Message). k' < length x) (first_goes l m rest e) h))

  -- what holds of each two messages, as they are put back, holds of each two that remain
  remaining_pairs : (R : Message → Message → Type 0) (ms : List Message)
      → ((q k : ℕ) → q < k → k < length ms → R (put_back l (get_or ms q no_message)) (put_back l (get_or ms k no_message)))
      → (q k : ℕ) → q < k → k < length (remaining l ms) → R (get_or (remaining l ms) q no_message) (get_or (remaining l ms) k no_message)
  unfolding remaining
  remaining_pairs R [] each q k before h = absurd (not-suc-le-zero h)
  remaining_pairs R (m ∷ rest) each q k before h =
      go (stays l m) (remaining_pairs R rest (λ q k b h. each (suc q) (suc k) (suc-le-suc b) (suc-le-suc h))) q k before h
    where
      go : (b : Bool)
          → ((q k : ℕ) → q < k → k < length (remaining l rest) → R (get_or (remaining l rest) q no_message) (get_or (remaining l rest) k no_message))
          → (q k : ℕ) → q < k → k < length (cond b (put_back l m ∷ remaining l rest) (remaining l rest))
          → R (get_or (cond b (put_back l m ∷ remaining l rest) (remaining l rest)) q no_message)
          (get_or (cond b (put_back l m ∷ remaining l rest) (remaining l rest)) k no_message)
      go true later q zero before h = absurd (not-suc-le-zero before)
      go true later zero (suc k) before h =
          let from = remaining_from rest k (le_of_suc-le-suc h) in
          subst⁻¹ (R (put_back l m)) from.3 (each zero (suc from.0) (omega arith) (suc-le-suc from.1))
      go true later (suc q) (suc k) before h = later q k (le_of_suc-le-suc before) (le_of_suc-le-suc h)
      go false later q k before h = later q k before h

  -- a message that stays stands behind those before it that stay
  module _ (ms : List Message) (k : ℕ) (h : k < length ms) (e : stays l (get_or ms k no_message) ≡ true) where
    remaining_split : remaining l ms ≡ remaining l (take k ms) ++ (put_back l (get_or ms k no_message) ∷ remaining l (drop (suc k) ms))
    remaining_split =
        ap (remaining l) (split_at ms k no_message h) ∙ remaining-append (take k ms) (get_or ms k no_message ∷ drop (suc k) ms)
        ∙ ap (λ (x : List Message). remaining l (take k ms) ++ x) (first_stays l (get_or ms k no_message) (drop (suc k) ms) e)

    remaining_place : length (remaining l (take k ms)) < length (remaining l ms)
    remaining_place = rw remaining_split (rw length-append (omega arith))

    remaining_message : get_or (remaining l ms) (length (remaining l (take k ms))) no_message ≡ put_back l (get_or ms k no_message)
    remaining_message =
        ap (λ (x : List Message). get_or x (length (remaining l (take k ms))) no_message) remaining_split
        ∙ get_or-append_seam (remaining l (take k ms)) (put_back l (get_or ms k no_message)) (remaining l (drop (suc k) ms)) no_message

  -- its place among the messages before n
  remaining_order : (ms : List Message) (k n : ℕ) → k < n → k < length ms → stays l (get_or ms k no_message) ≡ true
      → length (remaining l (take k ms)) < length (remaining l (take n ms))
  remaining_order ms k n order h e =
      let place = remaining_place (take n ms) k (rw length-take (omega arith)) (rw (get_or-take n ms k no_message order) e) in
      subst (λ (x : List Message). length (remaining l x) < length (remaining l (take n ms))) (take-take k n ms (omega arith)) place

one_more : (l : List ℕ) (p : ℕ) → p < length l → get_or (map (λ c. c + 1) l) p 0 ≡ get_or l p 0 + 1
one_more [] p h = absurd (not-suc-le-zero h)
one_more (c ∷ rest) zero h = refl
one_more (c ∷ rest) (suc p) h = one_more rest p (le_of_suc-le-suc h)

module _ (t : Table) where
  pub rollback-processes : process_count (after_rollback t) ≡ process_count t
  unfolding after_rollback process_count
  rollback-processes = length-map (recovery_line t) (λ c. c + 1) ∙ recovery_length t

  pub rollback_count : (p : ℕ) → p < process_count t → count_of (after_rollback t) p ≡ as_line (recovery_line t) p + 1
  unfolding after_rollback count_of
  rollback_count p h = one_more (recovery_line t) p (omega (arith, recovery_length t))

  -- the line stands at the last checkpoints
  last_checkpoint : (p : ℕ) → count_of (after_rollback t) p - 1 ≡ as_line (recovery_line t) p
  last_checkpoint p = go (dec_lt p (process_count t))
    where
      go : Dec (p < process_count t) → count_of (after_rollback t) p - 1 ≡ as_line (recovery_line t) p
      go (yes h) = omega (arith, rollback_count p h)
      go (no h) =
          omega (arith, count_beyond (after_rollback t) p (omega (arith, rollback-processes)), count_beyond t p (omega arith), (recovery_latest t).under p)

  pub rollback_fewer : message_count (after_rollback t) ≤ message_count t
  unfolding after_rollback message_count
  rollback_fewer = remaining_fewer (recovery_line t) t.messages

  -- each message comes from one that stays: it is undelivered again, or it was received before the line
  pub rollback_each : (P : Message → Type 0)
      → ((k : ℕ) → k < message_count t → stays (recovery_line t) (message_of t k) ≡ true → P (with_receipt (message_of t k) 0))
      → ((k : ℕ) → k < message_count t → stays (recovery_line t) (message_of t k) ≡ true
      → (message_of t k).received ≤ as_line (recovery_line t) (message_of t k).receiver → P (message_of t k))
      → (k' : ℕ) → k' < message_count (after_rollback t) → P (message_of (after_rollback t) k')
  unfolding after_rollback message_count message_of
  rollback_each P after before k' h =
      let from = remaining_from (recovery_line t) t.messages k' h in
      let k = from.0 in
      subst⁻¹ P from.3 (put_back_cases (recovery_line t) (message_of t k) P (after k from.1 from.2) (before k from.1 from.2))

  pub rollback_pairs : (R : Message → Message → Type 0)
      → ((q k : ℕ) → q < k → k < message_count t → R (put_back (recovery_line t) (message_of t q)) (put_back (recovery_line t) (message_of t k)))
      → (q k : ℕ) → q < k → k < message_count (after_rollback t) → R (message_of (after_rollback t) q) (message_of (after_rollback t) k)
  unfolding after_rollback message_count message_of
  rollback_pairs R each = remaining_pairs (recovery_line t) R t.messages each

  module _ (k : ℕ) (h : k < message_count t) (e : stays (recovery_line t) (message_of t k) ≡ true) where
    pub rollback_place : length (remaining (recovery_line t) (take k t.messages)) < message_count (after_rollback t)
    unfolding after_rollback message_count message_of
    rollback_place = remaining_place (recovery_line t) t.messages k h e

    pub rollback_message : message_of (after_rollback t) (length (remaining (recovery_line t) (take k t.messages)))
        ≡ put_back (recovery_line t) (message_of t k)
    unfolding after_rollback message_count message_of
    rollback_message = remaining_message (recovery_line t) t.messages k h e

    pub rollback_order : (n : ℕ) → k < n
        → length (remaining (recovery_line t) (take k t.messages)) < length (remaining (recovery_line t) (take n t.messages))
    unfolding message_count message_of
    rollback_order n order = remaining_order (recovery_line t) t.messages k n order h e

-- ---- a step
module _ (checks : List Check) (after before : Table) where
  step_taken : first_caught checks ≡ 0 → unless_caught checks after before ≡ after
  unfolding unless_caught
  step_taken e = rw (eq-eqb (first_caught checks) 0 e)

  step_caught : (first_caught checks ≡ 0 → ⊥) → unless_caught checks after before ≡ before
  unfolding unless_caught
  step_caught e = rw (ne_eqb (first_caught checks) 0 e)

  pub step_cases : (P : Table → Type 0) → (first_caught checks ≡ 0 → P after) → P before → P (unless_caught checks after before)
  step_cases P taken caught = go (ℕ_discrete (first_caught checks) 0)
    where
      go : Dec (first_caught checks ≡ 0) → P (unless_caught checks after before)
      go (yes e) = subst⁻¹ P (step_taken e) (taken e)
      go (no e) = subst⁻¹ P (step_caught e) caught

-- each step of a future leaves the table whose bytes its call answers, where nothing catches it
module _ (t : Table) where
  pub send_step : (j i : ℕ) → first_caught (send_checks t j i) ≡ 0 → step t (send j i) ≡ after_send t j i
  unfolding step
  send_step j i quiet = step_taken (send_checks t j i) (after_send t j i) t quiet

  module _ (i : ℕ) (list : List ℕ) (quiet : first_caught (receipt_checks t i list) ≡ 0) where
    pub receive_step : step t (receive i list) ≡ after_receipt t i list
    unfolding step
    receive_step = step_taken (receipt_checks t i list) (after_receipt t i list) t quiet

    pub checkpoint_step : step t (checkpoint i list) ≡ after_checkpoint t i list
    unfolding step
    checkpoint_step = step_taken (receipt_checks t i list) (after_checkpoint t i list) t quiet

  pub rollback_step : step t rollback ≡ after_rollback t
  unfolding step
  rollback_step = refl

-- what holds of the table, and of the one that each step leaves where nothing catches it
pub step_each : (t : Table) (P : Table → Type 0) → ((j i : ℕ) → first_caught (send_checks t j i) ≡ 0 → P (after_send t j i))
    → ((i : ℕ) (list : List ℕ) (t' : Table) → Receives t i list t' → first_caught (receipt_checks t i list) ≡ 0 → P t')
    → P (after_rollback t) → P t → (s : Step) → P (step t s)
unfolding step
step_each t P sent received rolled same (send j i) = step_cases (send_checks t j i) (after_send t j i) t P (sent j i) same
step_each t P sent received rolled same (receive i list) =
    step_cases (receipt_checks t i list) (after_receipt t i list) t P (received i list _ (receipt_receives t i list)) same
step_each t P sent received rolled same (checkpoint i list) =
    step_cases (receipt_checks t i list) (after_checkpoint t i list) t P (received i list _ (checkpoint_receives t i list)) same
step_each t P sent received rolled same rollback = rolled

-- a receipt of nothing leaves the messages, and so the table
pub receipt_of_nothing : (t : Table) (i : ℕ) → after_receipt t i [] ≡ t
unfolding after_receipt message_count message_of any
receipt_of_nothing t i =
    ap (with_messages t)
    (ext_get_or no_message (after_receipt t i []).messages t.messages (receives_messages after)
    (λ k l.
    let inside : k < message_count t = omega (arith, receives_messages after) in
    receives_message after k inside ∙ received_at_unlisted t i [] k refl))
  where
    after : Receives t i [] (after_receipt t i [])
    after = receipt_receives t i []

-- ---- well formed tables
-- a good message among as many processes, with another receipt number
good_again : (t t' : Table) {m : Message} → process_count t' ≡ process_count t → GoodMessage t m → m.sent < count_of t' m.sender → (n : ℕ)
    → n ≤ count_of t' m.receiver → GoodMessage t' (with_receipt m n)
good_again t t' same g sent n received = record {
  sender_known = omega (arith, g.sender_known);
  receiver_known = omega (arith, g.receiver_known);
  two_processes = g.two_processes;
  sent_below = sent;
  received-within = received;
}

-- one where no count is lower
still_good : (t t' : Table) (m : Message) → process_count t' ≡ process_count t → ((p : ℕ) → count_of t p ≤ count_of t' p) → GoodMessage t m
    → GoodMessage t' m
still_good t t' m same c g =
    good_again t t' same g (omega (arith, g.sent_below, c m.sender)) m.received (omega (arith, g.received-within, c m.receiver))

send_well_formed : (t : Table) → WellFormed t → (j i : ℕ) → first_caught (send_checks t j i) ≡ 0 → WellFormed (after_send t j i)
send_well_formed t w j i quiet = record {
  some_process = omega (arith, send-processes t j i, w.some_process);
  some_checkpoint = λ p l. omega (arith, same p, w.some_checkpoint p (omega (arith, send-processes t j i)));
  good_messages = send_each t j i (GoodMessage after) (λ k l. still_good t after (message_of t k) (send-processes t j i) same (w.good_messages k l)) new;
}
  where
    after : Table
    after = after_send t j i

    same : (p : ℕ) → count_of t p ≤ count_of after p
    same p = omega (arith, send_count t j i p)

    new : GoodMessage after (new_message t j i)
    new =
        let names = quiet_send t j i quiet in
        record {
          sender_known = omega (arith, names.0, send-processes t j i);
          receiver_known = omega (arith, names.1, send-processes t j i);
          two_processes = names.2;
          sent_below = omega (arith, w.some_checkpoint j names.0, same j);
          received-within = omega arith;
        }

-- a listed message is received at the count, and any other as before
receives_well_formed : (t : Table) → WellFormed t → (i : ℕ) (list : List ℕ) (t' : Table) → Receives t i list t'
    → first_caught (receipt_checks t i list) ≡ 0 → WellFormed t'
receives_well_formed t w i list t' r quiet = record {
  some_process = omega (arith, r.same_processes, w.some_process);
  some_checkpoint = λ p l. omega (arith, r.counts_grow p, w.some_checkpoint p (omega (arith, r.same_processes)));
  good_messages = receives_each r (GoodMessage t') listed good;
}
  where
    good : (k : ℕ) → k < message_count t → GoodMessage t' (message_of t k)
    good k l = still_good t t' (message_of t k) r.same_processes r.counts_grow (w.good_messages k l)

    listed : (k : ℕ) → k < message_count t → any (eqb k) list ≡ true → GoodMessage t' (with_receipt (message_of t k) (count_of t i))
    listed k l e =
        good_again t t' r.same_processes (w.good_messages k l) (good k l).sent_below (count_of t i)
        (subst⁻¹ (λ (q : ℕ). count_of t i ≤ count_of t' q) (receipt_waiting t i list quiet k e).to_process (r.counts_grow i))

-- a message that remains was sent below the line, and is undelivered or was received at or below it
rollback_well_formed : (t : Table) → WellFormed t → WellFormed (after_rollback t)
rollback_well_formed t w = record {
  some_process = omega (arith, rollback-processes t, w.some_process);
  some_checkpoint = λ p l. omega (arith, rollback_count t p (omega (arith, rollback-processes t)));
  good_messages = rollback_each t (GoodMessage (after_rollback t)) (λ k l e. good k l e 0 (omega arith)) (λ k l e. good k l e (message_of t k).received);
}
  where
    good : (k : ℕ) → k < message_count t → stays (recovery_line t) (message_of t k) ≡ true → (n : ℕ)
        → n ≤ as_line (recovery_line t) (message_of t k).receiver
        → GoodMessage (after_rollback t) (with_receipt (message_of t k) n)
    good k l e n under =
        let m = message_of t k in
        let g = w.good_messages k l in
        good_again t (after_rollback t) (rollback-processes t) g
        (omega (arith, stays_sent (recovery_line t) m e, rollback_count t m.sender g.sender_known)) n
        (omega (arith, rollback_count t m.receiver g.receiver_known))

pub step_well_formed : (t : Table) → WellFormed t → (s : Step) → WellFormed (step t s)
step_well_formed t w = step_each t WellFormed (send_well_formed t w) (receives_well_formed t w) (rollback_well_formed t w) w

-- ---- messages of a channel stay in turn
-- Two messages, the earlier one first, are in turn if they have one channel.
abbrev Turn : Message → Message → Type 0
Turn m later = same_channel m later ≡ true → InTurn m later

-- one that waits is in turn behind any that was sent no later
waiting_turn : (m later : Message) → m.sent ≤ later.sent → later.received ≡ 0 → InTurn m later
waiting_turn m later rise undelivered =
    record { sends_rise = rise; received-first = λ d. absurd (omega (arith, d)); receipts_rise = λ d. absurd (omega (arith, d)) }

module _ (m later : Message) (turn : Turn m later) where
  -- received at one number: both, the earlier one, the later one behind one that waits no more
  module _ (n : ℕ) where
    both_received : Turn (with_receipt m n) (with_receipt later n)
    unfolding same_channel
    both_received same = record { sends_rise = (turn same).sends_rise; received-first = λ d. d; receipts_rise = λ _. le_refl n }

    earlier_received : m.received ≡ 0 → Turn (with_receipt m n) later
    unfolding same_channel
    earlier_received undelivered same =
        let none : 0 < later.received → ⊥ = λ d. omega (arith, (turn same).received-first d) in
        waiting_turn (with_receipt m n) later (turn same).sends_rise (omega (arith, none))

    later-received : (same_channel m later ≡ true → (0 < m.received) × (m.received ≤ n)) → Turn m (with_receipt later n)
    unfolding same_channel
    later-received before same =
        record { sends_rise = (turn same).sends_rise; received-first = λ _. (before same).0; receipts_rise = λ _. (before same).1 }

  -- put back behind a line: the later one; the earlier one, and then the later one was not received at or below the line
  later_back : Turn m (with_receipt later 0)
  unfolding same_channel
  later_back same = waiting_turn m (with_receipt later 0) (turn same).sends_rise refl

  module _ (l : List ℕ) where
    earlier_back : as_line l m.receiver < m.received → later.received ≤ as_line l later.receiver → Turn (with_receipt m 0) later
    unfolding same_channel
    earlier_back after before same =
        let here : as_line l m.receiver ≡ as_line l later.receiver = ap (as_line l) (one_channel m later same).1 in
        let none : 0 < later.received → ⊥ = λ d. omega (arith, (turn same).receipts_rise d) in
        waiting_turn (with_receipt m 0) later (turn same).sends_rise (omega (arith, none))

    put_back_turn : Turn (put_back l m) (put_back l later)
    put_back_turn = go (dec_lt (as_line l m.receiver) m.received) (dec_lt (as_line l later.receiver) later.received)
      where
        go : Dec (as_line l m.receiver < m.received) → Dec (as_line l later.receiver < later.received)
            → Turn (put_back l m) (put_back l later)
        go (yes a) (yes b) = rw (put_back_after l m a, put_back_after l later b) (both_received 0)
        go (yes a) (no b) = rw (put_back_after l m a, put_back-before l later (omega arith)) (earlier_back a (omega arith))
        go (no a) (yes b) = rw (put_back-before l m (omega arith), put_back_after l later b) later_back
        go (no a) (no b) = rw (put_back-before l m (omega arith), put_back-before l later (omega arith)) turn

-- the new message waits, and was sent last
send_in_turn : (t : Table) → Orderly t → (j i : ℕ) → ChannelsInTurn (after_send t j i)
send_in_turn t o j i =
    send_pairs t j i Turn o.in_turn
    (λ q l channel.
    let sender : count_of t (message_of t q).sender ≡ count_of t j = ap (count_of t) (one_channel (message_of t q) (new_message t j i) channel).0 in
    waiting_turn (message_of t q) (new_message t j i) (omega (arith, (o.well_formed.good_messages q l).sent_below)) refl)

receives_in_turn : (t : Table) → Orderly t → (i : ℕ) (list : List ℕ) (t' : Table) → Receives t i list t'
    → first_caught (receipt_checks t i list) ≡ 0 → ChannelsInTurn t'
receives_in_turn t o i list t' r quiet q k before l =
    let b : k < message_count t = omega (arith, receives_messages r) in
    rw (receives_message r q (omega arith), receives_message r k b) (go (any (eqb q) list) (any (eqb k) list) refl refl b (o.in_turn q k before b))
  where
    -- an earlier message of its channel that is not listed waits no more, and was received at the count at the latest
    received_earlier : k < message_count t → any (eqb q) list ≡ false → any (eqb k) list ≡ true
        → same_channel (message_of t q) (message_of t k) ≡ true → (0 < (message_of t q).received) × ((message_of t q).received ≤ count_of t i)
    received_earlier l a b channel =
        let some : (message_of t q).received ≡ 0 → ⊥ = λ z. false≢true (sym a ∙ receipt_older t i list quiet k b q before channel z) in
        let to-i : (message_of t q).receiver ≡ i = (one_channel (message_of t q) (message_of t k) channel).1
        ∙ (receipt_waiting t i list quiet k b).to_process in
        (omega (arith, some), omega (arith, (o.well_formed.good_messages q (omega arith)).received-within, ap (count_of t) to-i))

    go : (x y : Bool) → any (eqb q) list ≡ x → any (eqb k) list ≡ y → k < message_count t → Turn (message_of t q) (message_of t k)
        → Turn (received_at t i list q) (received_at t i list k)
    go true true a b l turn =
        rw (received_at_listed t i list q a, received_at_listed t i list k b) (both_received (message_of t q) (message_of t k) turn (count_of t i))
    go true false a b l turn =
        rw (received_at_listed t i list q a, received_at_unlisted t i list k b)
        (earlier_received (message_of t q) (message_of t k) turn (count_of t i) (receipt_waiting t i list quiet q a).undelivered)
    go false true a b l turn =
        rw (received_at_unlisted t i list q a, received_at_listed t i list k b)
        (later-received (message_of t q) (message_of t k) turn (count_of t i) (received_earlier l a b))
    go false false a b l turn = rw (received_at_unlisted t i list q a, received_at_unlisted t i list k b) turn

rollback_in_turn : (t : Table) → ChannelsInTurn t → ChannelsInTurn (after_rollback t)
rollback_in_turn t turns =
    rollback_pairs t Turn (λ q k before l. put_back_turn (message_of t q) (message_of t k) (turns q k before l) (recovery_line t))

pub step_orderly : (t : Table) → Orderly t → (s : Step) → Orderly (step t s)
step_orderly t o s = record {
  well_formed = step_well_formed t o.well_formed s;
  in_turn = step_each t ChannelsInTurn (λ j i _. send_in_turn t o j i) (receives_in_turn t o) (rollback_in_turn t o.in_turn) o.in_turn s;
}

-- ---- limits
pub send_limits : (t : Table) (j i : ℕ) → Limits t → message_count t < most_messages → Limits (after_send t j i)
send_limits t j i limits room = record {
  processes_limit = omega (arith, send-processes t j i, limits.processes_limit);
  messages_limit = omega (arith, send-messages t j i);
  counts_limit = λ p l. omega (arith, send_count t j i p, limits.counts_limit p (omega (arith, send-processes t j i)));
}

receives_limits : {t : Table} {i : ℕ} {list : List ℕ} {t' : Table} → Receives t i list t' → Limits t
    → ((p : ℕ) → p < process_count t → count_of t' p ≤ most_checkpoints) → Limits t'
receives_limits r limits counts = record {
  processes_limit = omega (arith, r.same_processes, limits.processes_limit);
  messages_limit = omega (arith, receives_messages r, limits.messages_limit);
  counts_limit = λ p l. counts p (omega (arith, r.same_processes));
}

module _ (t : Table) (i : ℕ) (list : List ℕ) (limits : Limits t) where
  pub receipt_limits : Limits (after_receipt t i list)
  receipt_limits = receives_limits (receipt_receives t i list) limits (λ p l. omega (arith, receipt_count t i list p, limits.counts_limit p l))

  pub checkpoint_limits : count_of t i < most_checkpoints → Limits (after_checkpoint t i list)
  checkpoint_limits room = receives_limits (checkpoint_receives t i list) limits (λ p l. by_place p l (ℕ_discrete p i))
    where
      by_place : (p : ℕ) → p < process_count t → Dec (p ≡ i) → count_of (after_checkpoint t i list) p ≤ most_checkpoints
      by_place p l (yes e) =
          subst⁻¹ (λ (q : ℕ). count_of (after_checkpoint t i list) q ≤ most_checkpoints) e (omega (arith, checkpoint_count_here t i list (omega arith)))
      by_place p l (no e) = omega (arith, checkpoint_count_other t i list p e, limits.counts_limit p l)

pub rollback_limits : (t : Table) → WellFormed t → Limits t → Limits (after_rollback t)
rollback_limits t w limits = record {
  processes_limit = omega (arith, rollback-processes t, limits.processes_limit);
  messages_limit = omega (arith, rollback_fewer t, limits.messages_limit);
  counts_limit = λ p h.
      let l : p < process_count t = omega (arith, rollback-processes t) in
      omega (arith, rollback_count t p l, (recovery_latest t).under p, w.some_checkpoint p l, limits.counts_limit p l);
}

-- ---- the recovery line never goes back
module _ (t : Table) where
  abbrev NoOrphan : Message → Type 0
  NoOrphan m = Orphan m (as_line (recovery_line t)) → ⊥

  no_orphan_of : (k : ℕ) → NoOrphan (message_of t k)
  unfolding message_of
  no_orphan_of = (recovery_latest t).consistent

  -- the line is no higher than that of a table of which it is at or below the last checkpoints, with no message for an orphan
  no_higher : (t' : Table) → ((p : ℕ) → as_line (recovery_line t) p ≤ count_of t' p - 1)
      → ((k : ℕ) → k < message_count t' → NoOrphan (message_of t' k))
      → AtOrBelow (as_line (recovery_line t)) (as_line (recovery_line t'))
  unfolding message_of
  no_higher t' under none = (recovery_latest t').latest (as_line (recovery_line t)) under (λ k o. go k o (dec_lt k (message_count t')))
    where
      go : (k : ℕ) → Orphan (message_of t' k) (as_line (recovery_line t)) → Dec (k < message_count t') → ⊥
      go k o (yes b) = none k b o
      go k o (no b) = omega (arith, o.delivered, ap (λ (m : Message). m.received) (message_beyond t' k (omega arith)))

  -- the new message is undelivered
  send-no_higher : (j i : ℕ) → AtOrBelow (as_line (recovery_line t)) (as_line (recovery_line (after_send t j i)))
  send-no_higher j i =
      no_higher (after_send t j i) (λ p. omega (arith, (recovery_latest t).under p, send_count t j i p))
      (send_each t j i NoOrphan (λ k _. no_orphan_of k) (λ o. omega (arith, o.delivered)))

  -- a listed message is received at the count, which is above the line
  receives_no_higher : (i : ℕ) (list : List ℕ) (t' : Table) → Receives t i list t' → first_caught (receipt_checks t i list) ≡ 0
      → AtOrBelow (as_line (recovery_line t)) (as_line (recovery_line t'))
  receives_no_higher i list t' r quiet =
      no_higher t' (λ p. omega (arith, (recovery_latest t).under p, r.counts_grow p))
      (receives_each r NoOrphan
      (λ k _ listed o.
      let here : count_of t i ≤ as_line (recovery_line t) i =
      subst (λ (q : ℕ). count_of t i ≤ as_line (recovery_line t) q) (receipt_waiting t i list quiet k listed).to_process o.received-before
      in
      omega (arith, o.delivered, (recovery_latest t).under i))
      (λ k _. no_orphan_of k))

  -- a message that remains is undelivered or as it was
  rollback-no_higher : AtOrBelow (as_line (recovery_line t)) (as_line (recovery_line (after_rollback t)))
  rollback-no_higher =
      no_higher (after_rollback t) (λ p. omega (arith, last_checkpoint t p))
      (rollback_each t NoOrphan (λ k _ _ o. omega (arith, o.delivered)) (λ k _ _ _. no_orphan_of k))

  pub rollback_line : (p : ℕ) → as_line (recovery_line (after_rollback t)) p ≡ as_line (recovery_line t) p
  rollback_line p = omega (arith, rollback-no_higher p, (recovery_latest (after_rollback t)).under p, last_checkpoint t p)

  pub line_never_back : (s : Step) → AtOrBelow (as_line (recovery_line t)) (as_line (recovery_line (step t s)))
  line_never_back =
      step_each t (λ t'. AtOrBelow (as_line (recovery_line t)) (as_line (recovery_line t'))) (λ j i _. send-no_higher j i) receives_no_higher
      rollback-no_higher (λ p. omega arith)
