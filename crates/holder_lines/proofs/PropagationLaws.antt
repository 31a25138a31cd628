-- The processes from which a rollback propagates, as the loop of `propagation::propagating` finds them.
--     Seen, seen_none                 the loop's invariant; how it begins
--     NextSend                        the loop at its next message, whose send was read, with the count of its sender
--     skips_sent_before, skips_undelivered, seen_marks    what its tests say of that message
--     parts_counted, propagates_read  the parts of an accepted table, and that they tell of the table
--     line_is_ceiling                 the line of a set is its ceiling, where a rollback of none of its members propagates
--     holder_ceiling                  the line of one process from which no rollback propagates is its ceiling
-- Assumes nothing.
use mathlib.Core.Bool.{Bool, true, false, ◌&&◌, and-false, false≢true}
use mathlib.Core.List.{List}
use mathlib.Core.Path.{◌≡◌, refl, sym, ap, ◌∙◌}
use Prim.Native.Nat.{ℕ, ◌+◌, ◌-◌, ◌*◌, ◌^◌, ◌≤◌, ◌<◌}
use native.Mathlib.Nat.{le_refl}
use native.Mathlib.Numerals.{add-one}
use native.Mathlib.Omega.{arith}
use borrow.Author.Tests.{eqb-true, eq-eqb, ne_eqb, le-leb, lt-leb, lt-ltb}
use lib.Dec.{eqb, leb, ltb}
use lib.ListN.{set, replicate}
use Rattle.consistency.proofs.CeilingLaws.{ceiling_at_lem}
use Rattle.consistency.proofs.LoweringLaws.{line_consistent}
use Rattle.consistency.specs.Ceilings.{Holders, ceiling_of, line_of}
use Rattle.consistency.specs.Lines.{Orphan, as_line}
use Rattle.holder_lines.specs.Propagation.{CountedMessages, orphaned, propagates, propagates_at, propagates_from}
use Rattle.process_set.proofs.SetLaws.{member_one}
use Rattle.process_set.specs.Sets.{member}
use Rattle.tables.proofs.AcceptLaws.{facts}
use Rattle.tables.proofs.FormatLaws.{message_in}
use Rattle.tables.proofs.ListLaws.{any_below_ext, any_below_found, set-tabulate, tabulate_ext}
use Rattle.tables.proofs.ReadLaws.{ReadMessages, count_is, counts_known, message_good, message_is, messages_known}
use Rattle.tables.specs.Checks.{WellFormed, table_refusal}
use Rattle.tables.specs.Format.{count_at, counts_part, decode, message_at, receipts_part, sends_part}
use Rattle.tables.specs.Lists.{any_below, tabulate}
use Rattle.tables.specs.Numbers.{u16_at}
use Rattle.tables.specs.Table.{Message, Table, count_of, message_count, message_of, most_processes}
use Rattle.tables.specs.declared.messages.MessageParts.{MessageParts}

-- ---- a loop that marks the senders of messages that a rollback of them orphans
-- It has gone over the first k messages, and marked each process from which a rollback propagates by them.
abbrev pub Seen : MessageParts → List ℕ → List Bool → ℕ → Type 0
Seen parts counts found k = found ≡ tabulate 32 (propagates_at k counts parts.sends.now parts.receipts.now)

pub seen_none : (parts : MessageParts) (counts : List ℕ) → Seen parts counts (replicate 32 false) 0
unfolding propagates_at propagates any_below tabulate
seen_none parts counts = refl

-- The next message, number k: its send was read, and the count of its sender.
pub record NextSend (parts : MessageParts) (counts : List ℕ) (found : List Bool) (k j y count : ℕ) : Type 0 where
  pub seen : Seen parts counts found k
  pub sender : j ≡ (message_at parts.sends.now parts.receipts.now k).sender
  pub sent : y ≡ (message_at parts.sends.now parts.receipts.now k).sent
  pub count_read : count ≡ u16_at counts (2 * j)

module _ {parts : MessageParts} {counts : List ℕ} {found : List Bool} {k j y count : ℕ} (x : NextSend parts counts found k j y count) where
  abbrev this : Message
  this = message_at parts.sends.now parts.receipts.now k

  orphaned_is : (r : ℕ) → r ≡ this.received → orphaned (count_at counts) this ≡ (leb (count - 1) y && ltb 0 r)
  unfolding orphaned count_at
  orphaned_is r e = rw (← e, ← x.sent, ← x.sender, ← x.count_read)

  -- one message more
  same : (p : ℕ) → (eqb this.sender p && orphaned (count_at counts) this) ≡ false
      → propagates_at k counts parts.sends.now parts.receipts.now p ≡ propagates_at (k + 1) counts parts.sends.now parts.receipts.now p
  unfolding propagates_at propagates any_below
  same p e = rw (add-one k, e)

  skips : orphaned (count_at counts) this ≡ false → Seen parts counts found (k + 1)
  skips e = x.seen ∙ tabulate_ext 32 _ _ (λ p _. same p (rw e (and-false (eqb this.sender p))))

  -- it was sent before the last checkpoint
  pub skips_sent_before : y < count - 1 → Seen parts counts found (k + 1)
  skips_sent_before b = skips (orphaned_is _ refl ∙ rw (lt-leb (count - 1) y b))

  module _ {r : ℕ} (received : r ≡ this.received) where
    pub skips_undelivered : r ≡ 0 → Seen parts counts found (k + 1)
    skips_undelivered e = skips (orphaned_is r received ∙ rw e (and-false (leb (count - 1) y)))

    pub seen_marks : j < most_processes → count - 1 ≤ y → (r ≡ 0 → ⊥) → Seen parts counts (set found j true) (k + 1)
    unfolding propagates_at propagates
    seen_marks small b d =
        ap (λ (f : List Bool). set f j true) x.seen
        ∙ set-tabulate 32 _ _ j true small
        (sym (any_below_found _ (k + 1) k (omega arith) (rw (eq-eqb this.sender j (sym x.sender), orphan))))
        (λ p other. same p (rw (ne_eqb this.sender p (λ e. other (sym e ∙ sym x.sender)))))
      where
        orphan : orphaned (count_at counts) this ≡ true
        orphan = orphaned_is r received ∙ rw (le-leb (count - 1) y b, lt-ltb 0 r (omega arith))

-- ---- of an accepted table, by its parts
module _ {bytes : List ℕ} {m : ℕ} {counts sends receipts : List ℕ} (read : ReadMessages bytes m sends receipts)
    (counts_are : counts ≡ counts_part bytes) where
  pub parts_counted : CountedMessages m counts sends receipts
  parts_counted =
      record { processes = _; counted = counts_known bytes read.accepted refl counts_are; messages = messages_known read (le_refl _) }

  pub propagates_read : tabulate 32 (propagates_at m counts sends receipts) ≡ tabulate 32 (propagates_from (decode bytes))
  unfolding propagates_at propagates_from propagates orphaned
  propagates_read = rw (read.m_is, counts_are, read.sends_are, read.receipts_are) (tabulate_ext 32 _ _ (λ p _. any_below_ext _ _ (message_count t) (each p)))
    where
      t : Table
      t = decode bytes

      orphans : (ℕ → ℕ) → ℕ → Message → Bool
      orphans count p x = eqb x.sender p && orphaned count x

      each : (p k : ℕ) → k < message_count t
          → orphans (count_at (counts_part bytes)) p (message_at (sends_part bytes) (receipts_part bytes) k) ≡ orphans (count_of t) p (message_of t k)
      each p k l =
          let x = message_of t k in
          let count = count_is bytes read.accepted x.sender (message_good bytes read.accepted k l).sender_known in
          ap (orphans (count_at (counts_part bytes)) p) (message_is bytes read.accepted k l)
          ∙ ap (λ (c : ℕ). eqb x.sender p && (leb (c - 1) x.sent && ltb 0 x.received)) count

-- ---- lines that are their ceilings
module _ (t : Table) (w : WellFormed t) where
  -- the line of a set is its ceiling, where no rollback of a member propagates: an orphan of the ceiling is orphaned by a rollback of
  -- its sender, which holds
  pub line_is_ceiling : (holds : Holders) → ((p : ℕ) → holds p ≡ true → propagates_from t p ≡ false) → line_of t holds ≡ ceiling_of t holds
  unfolding line_of message_of propagates_from propagates orphaned
  line_is_ceiling holds none = sym (line_consistent t.messages (ceiling_of t holds) (λ k o. go k o (holds (message_of t k).sender) refl))
    where
      go : (k : ℕ) → Orphan (message_of t k) (as_line (ceiling_of t holds)) → (b : Bool) → holds (message_of t k).sender ≡ b → ⊥
      go k o true e =
          let m = message_of t k in
          let last : count_of t m.sender - 1 ≤ m.sent = omega (arith, o.sent_after, rw e at (ceiling_at_lem t holds m.sender)) in
          false≢true (sym (none m.sender e) ∙ any_below_found _ (message_count t) k (message_in t k o.delivered)
          (rw (eq-eqb m.sender m.sender refl, le-leb _ _ last, lt-ltb 0 m.received o.delivered)))
      go k o false e =
          let m = message_of t k in
          omega (arith, o.sent_after, rw e at (ceiling_at_lem t holds m.sender), (w.good_messages k (message_in t k o.delivered)).sent_below)

pub holder_ceiling : (bytes : List ℕ) → table_refusal bytes ≡ 0 → (k : ℕ) → propagates_from (decode bytes) k ≡ false
    → ceiling_of (decode bytes) (member (2 ^ k)) ≡ line_of (decode bytes) (member (2 ^ k))
holder_ceiling bytes accepted k e =
    sym (line_is_ceiling (decode bytes) (facts bytes accepted).well_formed (member (2 ^ k))
    (λ p h. ap (propagates_from (decode bytes)) (eqb-true p k (sym (member_one k p) ∙ h)) ∙ e))
