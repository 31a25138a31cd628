-- What a rollback leaves, as the code finds it message by message.
--     so_far                                   the messages that remain of the first k
--     line_small, count_left, counts_front    the counts that it writes
--     ReadAtLine                              what both loops are given
--     found_going .. in_place                 what their test says of a message
--     received_left                           the receipt number that is written of one
--     RemainingCounted, counted_none .. counted_stays    a loop that counts what remains
--     RemainingFits, Gathering, gathering_none .. gathering_stays    a loop that writes its entries
--     receipt_undone, receipt_kept            a receipt beside the line
-- Assumes nothing.
use mathlib.Core.Bool.{Bool, true, false, cond}
use mathlib.Core.List.{List, [], ◌∷◌, ◌++◌, append-nil}
use mathlib.Core.Path.{◌≡◌, refl, sym, ap, ap₂, ◌∙◌}
use Prim.Native.Nat.{ℕ, suc, ◌+◌, ◌*◌, ◌≤◌, ◌<◌}
use native.Mathlib.Numerals.{add-one}
use native.Mathlib.Omega.{arith}
use borrow.Author.Tests.{le-ltb, lt-ltb}
use lib.Dec.{ltb}
use lib.ListN.{length, get_or, take, length-append}
use lib.Seq.{take_all, take-suc}
use Rattle.consistency.specs.Ceilings.{recovery_line}
use Rattle.consistency.specs.Lines.{as_line}
use Rattle.steps.proofs.StepLaws.{put_back_receiver, put_back_sender, put_back_sent, recovery_latest, recovery_length, remaining-append, rollback_count}
use Rattle.steps.proofs.StepLaws.{rollback_fewer, rollback_place, rollback-processes}
use Rattle.steps.specs.Steps.{after_rollback, put_back, remaining, stays}
use Rattle.tables.proofs.AcceptLaws.{facts}
use Rattle.tables.proofs.ArrayLaws.{array_at, array_front}
use Rattle.tables.proofs.CodingLaws.{entries_append}
use Rattle.tables.proofs.FormatLaws.{length_entries}
use Rattle.tables.proofs.NumberLaws.{length-put_at, length-u16s, put_at_none, u16s-append}
use Rattle.number_writer.proofs.PlaceLaws.{both_more}
use Rattle.tables.proofs.ReadLaws.{ReadMessages, messages_read, processes_few, received_is, receiver_is, sender_is, sent_is}
use Rattle.tables.specs.Arrays.{array_of}
use Rattle.tables.specs.Format.{decode, entries_of, receipts_of, receipts_part, sends_of, sends_part}
use Rattle.tables.specs.Numbers.{bytes_of_all, put_at, u16_at, u16s}
use Rattle.tables.specs.Table.{Message, Table, count_of, message_count, message_of, most_processes, no_message, process_count, with_receipt}
use Rattle.rollback.specs.Rollback.{AtLine, receipt_left}

-- ---- what remains of the first k messages
module _ (l : List ℕ) where
  -- a message with what remains of it
  abbrev one : Message → List Message
  one m = cond (stays l m) (put_back l m ∷ []) []

  remaining_more : (ms : List Message) (k : ℕ) → k < length ms → remaining l (take (suc k) ms) ≡ remaining l (take k ms) ++ one (get_or ms k no_message)
  unfolding remaining
  remaining_more ms k h = ap (remaining l) (take-suc ms k no_message h) ∙ remaining-append l (take k ms) (get_or ms k no_message ∷ [])

-- The messages that remain of the first k.
abbrev so_far : Table → ℕ → List Message
so_far t k = remaining (recovery_line t) (take k t.messages)

module _ (t : Table) (k : ℕ) where
  so_far_more : k < message_count t → so_far t (k + 1) ≡ so_far t k ++ one (recovery_line t) (message_of t k)
  unfolding message_count message_of
  so_far_more h = ap (so_far t) (add-one k) ∙ remaining_more (recovery_line t) t.messages k h

  so_far_all : message_count t ≤ k → so_far t k ≡ (after_rollback t).messages
  unfolding message_count after_rollback
  so_far_all h = ap (remaining (recovery_line t)) (take_all k t.messages h)

-- ---- the entries of what remains: their sends, and behind the m sends their receipts
sends_size_of : (ms : List Message) → length (u16s (sends_of ms)) ≡ 4 * length ms
sends_size_of ms = omega (arith, length-u16s (sends_of ms), length_entries (λ x. x.sender) (λ x. x.sent) ms)

receipts_size_of : (ms : List Message) → length (u16s (receipts_of ms)) ≡ 4 * length ms
receipts_size_of ms = omega (arith, length-u16s (receipts_of ms), length_entries (λ x. x.receiver) (λ x. x.received) ms)

-- The entries of some messages in a buffer.
abbrev filled : List ℕ → ℕ → ℕ → List Message → List ℕ
filled before start m ms = put_at (put_at before start (u16s (sends_of ms))) (start + 4 * m) (u16s (receipts_of ms))

-- ---- beside the recovery line of an accepted table
module _ {table line : List ℕ} (here : AtLine table line) where
  abbrev t : Table
  t = decode table

  few : process_count t ≤ most_processes
  few = processes_few table here.accepted

  line_at : (p : ℕ) → get_or line p 0 ≡ as_line (recovery_line t) p
  line_at p = ap (λ (l : List ℕ). get_or l p 0) here.line_is ∙ array_at (recovery_line t) (omega (arith, recovery_length t, few)) p

  module _ {p : ℕ} (l : p < process_count t) where
    pub line_small : get_or line p 0 < 65535
    line_small = omega (arith, line_at p, (recovery_latest t).under p, (facts table here.accepted).limits.counts_limit p l)

    -- the count that is left of a process
    pub count_left : get_or line p 0 + 1 ≡ get_or (after_rollback t).counts p 0
    unfolding count_of
    count_left = ap (λ (x : ℕ). x + 1) (line_at p) ∙ sym (rollback_count t p l)

  -- the counts that are left, as the front of an array
  pub counts_front : {counts : List ℕ} {n : ℕ} → counts ≡ array_of (after_rollback t).counts → n ≡ process_count t
      → take n counts ≡ (after_rollback t).counts
  unfolding process_count
  counts_front {counts} {n} e same =
      array_front (after_rollback t).counts counts n e (same ∙ sym (rollback-processes t)) (omega (arith, rollback-processes t, few))

-- ---- message k, by the numbers that the code read of its entries
-- What both loops are given: a table at its recovery line, and its messages as they were read.
pub record ReadAtLine (table line : List ℕ) (m : ℕ) (sends receipts : List ℕ) : Type 0 where
  pub at_line : AtLine table line
  pub read : ReadMessages table m sends receipts

module _ {table line : List ℕ} {m : ℕ} {sends receipts : List ℕ} (g : ReadAtLine table line m sends receipts) {k : ℕ} (l : k < m) where
  abbrev T : Table
  T = decode table

  abbrev this : Message
  this = message_of T k

  there : k < message_count T
  there = omega (arith, g.read.m_is)

  module _ {j y : ℕ} (read-j : j ≡ u16_at sends (4 * k)) (read-y : y ≡ u16_at sends (4 * k + 2)) where
    stays_read : stays (recovery_line T) this ≡ ltb y (get_or line j 0)
    unfolding stays
    stays_read = sym (ap₂ ltb (sent_is g.read l read-y) (line_at g.at_line j ∙ ap (as_line (recovery_line T)) (sender_is g.read l read-j)))

    -- it goes
    found_going : get_or line j 0 ≤ y → so_far T (k + 1) ≡ so_far T k
    found_going b = so_far_more T k there ∙ rw (stays_read, le-ltb y (get_or line j 0) b) (append-nil (so_far T k))

    -- it stays, behind those before it
    module _ (b : y < get_or line j 0) where
      found_staying : stays (recovery_line T) this ≡ true
      found_staying = stays_read ∙ lt-ltb y (get_or line j 0) b

      one_more : so_far T (k + 1) ≡ so_far T k ++ (put_back (recovery_line T) this ∷ [])
      one_more = so_far_more T k there ∙ rw found_staying

      one_longer : length (so_far T (k + 1)) ≡ length (so_far T k) + 1
      one_longer = omega (arith, ap length one_more, length-append (so_far T k) (put_back (recovery_line T) this ∷ []))

      in_place : length (so_far T k) < message_count (after_rollback T)
      in_place = rollback_place T k there found_staying

  received_left : {i r v : ℕ} → i ≡ u16_at receipts (4 * k) → r ≡ u16_at receipts (4 * k + 2) → v ≡ receipt_left (get_or line i 0) r
      → v ≡ (put_back (recovery_line T) this).received
  unfolding put_back receipt_left
  received_left {i} read-i read-r is =
      is
      ∙ ap₂ (λ (a b : ℕ). cond (ltb a b) 0 b) (line_at g.at_line i ∙ ap (as_line (recovery_line T)) (receiver_is g.read l read-i))
      (received_is g.read l read-r)
      ∙ go (ltb (as_line (recovery_line T) this.receiver) this.received)
    where
      go : (b : Bool) → cond b 0 this.received ≡ (cond b (with_receipt this 0) this).received
      go true = refl
      go false = refl

-- ---- a loop that counts what remains of the first k messages
pub record RemainingCounted (table line : List ℕ) (m : ℕ) (sends : List ℕ) (n k : ℕ) : Type 0 where
  pub given : ReadAtLine table line m sends (receipts_part table)
  pub counted : n ≡ length (so_far (decode table) k)

pub counted_none : {table line : List ℕ} {m : ℕ} {sends : List ℕ} → AtLine table line → m ≡ message_count (decode table)
    → sends ≡ sends_part table → RemainingCounted table line m sends 0 0
unfolding remaining
counted_none here m_is sends_are =
    record { given = record { at_line = here; read = messages_read here.accepted m_is sends_are refl }; counted = refl }

module _ {table line : List ℕ} {m : ℕ} {sends : List ℕ} {n k : ℕ} (w : RemainingCounted table line m sends n k) where
  pub counted-all : m ≤ k → n ≡ message_count (after_rollback (decode table))
  unfolding message_count
  counted-all h = w.counted ∙ ap length (so_far_all (decode table) k (omega (arith, w.given.read.m_is)))

  module _ (l : k < m) {j y : ℕ} (read-j : j ≡ u16_at sends (4 * k)) (read-y : y ≡ u16_at sends (4 * k + 2)) where
    pub counted_goes : get_or line j 0 ≤ y → RemainingCounted table line m sends n (k + 1)
    counted_goes b = record { given = w.given; counted = w.counted ∙ ap length (sym (found_going w.given l read-j read-y b)) }

    module _ (b : y < get_or line j 0) where
      pub counted_fits : n < m
      counted_fits = omega (arith, w.counted, w.given.read.m_is, in_place w.given l read-j read-y b, rollback_fewer (decode table))

      pub counted_stays : RemainingCounted table line m sends (n + 1) (k + 1)
      counted_stays = record { given = w.given; counted = omega (arith, w.counted, one_longer w.given l read-j read-y b) }

-- ---- a loop that writes the entries of what remains of the first k messages
-- What it is given: how many remain, and room for them.
pub record RemainingFits (table line : List ℕ) (m start : ℕ) (before : List ℕ) (all : ℕ) (sends receipts : List ℕ) : Type 0 where
  pub messages : ReadAtLine table line all sends receipts
  pub remain : m ≡ message_count (after_rollback (decode table))
  pub room : start + 8 * m ≤ length before

-- They stand from a start on, the next send goes to the place behind them, and the rest of the buffer is as it was.
pub record Gathering (table line : List ℕ) (m start : ℕ) (before : List ℕ) (all : ℕ) (sends receipts : List ℕ) (k place : ℕ)
    (after : List ℕ) : Type 0 where
  pub given : RemainingFits table line m start before all sends receipts
  pub behind : place ≡ start + 4 * length (so_far (decode table) k)
  pub same_length : length after ≡ length before
  pub contents : after ≡ filled before start m (so_far (decode table) k)

module _ {table line : List ℕ} {m start : ℕ} {before : List ℕ} {all : ℕ} {sends receipts : List ℕ} where
  pub gathering_none : AtLine table line → m ≡ message_count (after_rollback (decode table)) → start + 8 * m ≤ length before
      → all ≡ message_count (decode table) → sends ≡ sends_part table → receipts ≡ receipts_part table
      → Gathering table line m start before all sends receipts 0 start before
  unfolding remaining entries_of bytes_of_all
  gathering_none here remain room all-is sends_are receipts_are = record {
    given = record {
      messages = record { at_line = here; read = messages_read here.accepted all-is sends_are receipts_are };
      remain = remain;
      room = room;
    };
    behind = omega arith;
    same_length = refl;
    contents = sym (put_at_none (put_at before start []) (start + 4 * m) ∙ put_at_none before start);
  }

  module _ {k place : ℕ} {after : List ℕ} (w : Gathering table line m start before all sends receipts k place after) where
    abbrev gathers : Table
    gathers = decode table

    abbrev at : ReadAtLine table line all sends receipts
    at = w.given.messages

    pub gathering_all : all ≤ k → after ≡ filled before start m (after_rollback gathers).messages
    gathering_all h = w.contents ∙ ap (filled before start m) (so_far_all gathers k (omega (arith, at.read.m_is)))

    module _ (l : k < all) {j y : ℕ} (read-j : j ≡ u16_at sends (4 * k)) (read-y : y ≡ u16_at sends (4 * k + 2)) where
      pub gathering_goes : get_or line j 0 ≤ y → Gathering table line m start before all sends receipts (k + 1) place after
      gathering_goes b =
          let same = sym (found_going at l read-j read-y b) in
          record {
            given = w.given;
            behind = w.behind ∙ ap (λ (ms : List Message). start + 4 * length ms) same;
            same_length = w.same_length;
            contents = w.contents ∙ ap (filled before start m) same;
          }

      module _ (b : y < get_or line j 0) where
        inside : length (so_far gathers k) < m
        inside = omega (arith, w.given.remain, in_place at l read-j read-y b)

        pub gathering_room : place + 4 * m + 4 ≤ length after
        gathering_room = omega (arith, w.given.room, w.behind, w.same_length, inside)

        abbrev next : Message
        next = put_back (recovery_line gathers) (message_of gathers k)

        -- one entry more
        grown : (f g : Message → ℕ) (a c : ℕ) → a ≡ f next → c ≡ g next
            → u16s (entries_of f g (so_far gathers k)) ++ u16s (a ∷ c ∷ []) ≡ u16s (entries_of f g (so_far gathers (k + 1)))
        unfolding entries_of
        grown f g a c ea ec =
            sym (u16s-append (entries_of f g (so_far gathers k)) (a ∷ c ∷ []))
            ∙ ap u16s (ap₂ (λ (x z : ℕ). entries_of f g (so_far gathers k) ++ (x ∷ z ∷ [])) ea ec
            ∙ sym (ap (entries_of f g) (one_more at l read-j read-y b) ∙ entries_append f g (so_far gathers k) (next ∷ [])))

        -- the send and the receipt were put at their places
        pub gathering_stays : {i r v : ℕ} {between later : List ℕ} → i ≡ u16_at receipts (4 * k) → r ≡ u16_at receipts (4 * k + 2)
            → v ≡ receipt_left (get_or line i 0) r → between ≡ put_at after place (u16s (j ∷ y ∷ []))
            → later ≡ put_at between (place + 4 * m) (u16s (i ∷ v ∷ []))
            → Gathering table line m start before all sends receipts (k + 1) (place + 4) later
        gathering_stays {i} {r} {v} {between} {later} read-i read-r left put₁ put₂ = record {
          given = w.given;
          behind = omega (arith, w.behind, longer);
          same_length = ap length written ∙ same_after (so_far gathers (k + 1)) (omega (arith, longer, inside));
          contents = written;
        }
          where
            longer : length (so_far gathers (k + 1)) ≡ length (so_far gathers k) + 1
            longer = one_longer at l read-j read-y b

            same_after : (ms : List Message) → length ms ≤ m → length (filled before start m ms) ≡ length before
            same_after ms few =
                let near = length-put_at before start (u16s (sends_of ms)) (omega (arith, sends_size_of ms, w.given.room)) in
                length-put_at (put_at before start (u16s (sends_of ms))) (start + 4 * m) (u16s (receipts_of ms))
                (omega (arith, near, receipts_size_of ms, w.given.room)) ∙ near

            near_place : place ≡ start + length (u16s (sends_of (so_far gathers k)))
            near_place = omega (arith, w.behind, sends_size_of (so_far gathers k))

            far_place : place + 4 * m ≡ start + 4 * m + length (u16s (receipts_of (so_far gathers k)))
            far_place = omega (arith, w.behind, receipts_size_of (so_far gathers k))

            two : (a b : ℕ) → length (u16s (a ∷ b ∷ [])) ≡ 4
            two a b = omega (arith, length-u16s (a ∷ b ∷ []))

            -- the numbers put are those of the message as it remains
            sent : u16s (sends_of (so_far gathers k)) ++ u16s (j ∷ y ∷ []) ≡ u16s (sends_of (so_far gathers (k + 1)))
            sent =
                grown (λ x. x.sender) (λ x. x.sent) j y
                (sender_is at.read l read-j ∙ sym (put_back_sender (recovery_line gathers) (message_of gathers k)))
                (sent_is at.read l read-y ∙ sym (put_back_sent (recovery_line gathers) (message_of gathers k)))

            received : u16s (receipts_of (so_far gathers k)) ++ u16s (i ∷ v ∷ []) ≡ u16s (receipts_of (so_far gathers (k + 1)))
            received =
                grown (λ x. x.receiver) (λ x. x.received) i v
                (receiver_is at.read l read-i ∙ sym (put_back_receiver (recovery_line gathers) (message_of gathers k)))
                (received_left at l read-i read-r left)

            first : between ≡ put_at (filled before start m (so_far gathers k)) (start + length (u16s (sends_of (so_far gathers k)))) (u16s (j ∷ y ∷ []))
            first = put₁ ∙ ap₂ (λ (l : List ℕ) (n : ℕ). put_at l n (u16s (j ∷ y ∷ []))) w.contents near_place

            written : later ≡ filled before start m (so_far gathers (k + 1))
            written =
                put₂ ∙ ap₂ (λ (l : List ℕ) (n : ℕ). put_at l n (u16s (i ∷ v ∷ []))) first far_place
                ∙ both_more before (u16s (sends_of (so_far gathers k))) (u16s (receipts_of (so_far gathers k))) (u16s (j ∷ y ∷ []))
                (u16s (i ∷ v ∷ [])) start
                (start + 4 * m) (omega (arith, sends_size_of (so_far gathers k), two j y, inside))
                (omega (arith, w.given.room, receipts_size_of (so_far gathers k), two i v, inside))
                ∙ ap₂ (λ (s z : List ℕ). put_at (put_at before start s) (start + 4 * m) z) sent received

-- ---- a receipt number beside the line's
module _ (height received : ℕ) where
  pub receipt_undone : height < received → ◌≡◌ {A = ℕ} 0 (receipt_left height received)
  unfolding receipt_left
  receipt_undone h = rw (lt-ltb height received h)

  pub receipt_kept : received ≤ height → received ≡ receipt_left height received
  unfolding receipt_left
  receipt_kept h = rw (le-ltb height received h)
