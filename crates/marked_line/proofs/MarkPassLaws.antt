-- Passes over the messages, from the last to the first, as the loops of `pass` and `mark_reachable` go.
--     grown_none, grown_both             nothing marked; one pass after another
--     MarkPassing, pass_begins           the invariant of one pass, and how it begins
--     AtReceipt, AtSend                  the pass at its next message: the receipt was read; the send was, too
--     receiver_known, received-there, sender_known, sent_there, row_ready    what the code asks of that message and of its row
--     skips_undelivered, skips_marked, skips_unreached, pass_marks    what its tests say of it
--     IsMarked, marks_in_lem, marks_are, marks_bit    the marks that a buffer holds, by its bits
--     reached_all                        where no message leads to anything new, all that is reachable is marked
--     Growing, passes_end                the invariant of the passes, and the last one
-- Assumes nothing.
use mathlib.Core.Bool.{Bool, true, false, ◌||◌, false≢true, true≢false}
use mathlib.Core.List.{List}
use mathlib.Core.Logic.{◌⊎◌, inl, inr, ⊎_elim}
use mathlib.Core.Path.{◌≡◌, refl, sym, ap, ap₂, ◌∙◌, subst, subst⁻¹}
use Prim.Native.Nat.{ℕ, suc, ◌+◌, ◌-◌, ◌*◌, ◌≤◌, ◌<◌}
use native.Mathlib.Decide.{dec_le, ℕ_discrete}
use native.Mathlib.Nat.{le_refl}
use native.Mathlib.Omega.{arith}
use borrow.Author.Tests.{eq-eqb, eqb-true, le-leb, leb-true, lt-ltb, ltb-true}
use lib.Dec.{eqb, leb, ltb}
use lib.ListN.{get_or}
use Rattle.checkpoint_graph.proofs.GraphLaws.{leads_carry, leads_to}
use Rattle.tables.proofs.FormatLaws.{message_in}
use Rattle.checkpoint_graph.specs.Graph.{Edge, Leads, State, received, state, to_next}
use Rattle.marked_line.proofs.MarkRowLaws.{kept_both, kept_none, lent_kept, row_below}
use Rattle.marked_line.proofs.MarkRowLaws.{row_here, row_kept, row_onwards, row_other, row_stay}
use Rattle.marked_line.specs.Marking.{Closed, MarksGrown, Lent, PassMade, Reached, Ready, RestsAt, marks_in}
use Rattle.marking.proofs.ReachLaws.{reach_edge, reach_root, reach_up}
use Rattle.marking.specs.Procedure.{Reachable}
use Rattle.marks.proofs.BitLaws.{unset_falls, unset_fewer}
use Rattle.marks.proofs.LayoutLaws.{first_apart}
use Rattle.marks.specs.Bits.{Onwards, SetFrom, first_bit, marked_in, unset}
use Rattle.tables.proofs.AcceptLaws.{facts}
use Rattle.tables.proofs.ListLaws.{and_left, and_right, or_false_left, or_false_right}
use Rattle.tables.proofs.ReadLaws.{ReadMessages, good, received_is, receiver_is, sender_is, sent_is}
use Rattle.tables.specs.Checks.{GoodMessage, WellFormed}
use Rattle.tables.specs.Format.{decode}
use Rattle.tables.specs.Numbers.{u16_at}
use Rattle.tables.specs.Table.{Message, Table, count_of, message_count, message_of, process_count}

abbrev bits : Table → ℕ
bits t = first_bit t.counts (process_count t)

-- ---- marks that grow
pub grown_none : {t : Table} {roots buffer : List ℕ} → MarksGrown t roots buffer buffer
grown_none = record { kept = kept_none; stay = λ b e. e; no_others = λ p y l l' e. inl e }

pub grown_both : {t : Table} {roots a b c : List ℕ} → MarksGrown t roots a b → MarksGrown t roots b c → MarksGrown t roots a c
grown_both g g' = record {
  kept = kept_both g.kept g'.kept;
  stay = λ b e. g'.stay b (g.stay b e);
  no_others = λ p y l l' e. ⊎_elim (g.no_others p y l l') inr (g'.no_others p y l l' e);
}

pub grown_stays : {t : Table} {roots before after : List ℕ} → MarksGrown t roots before after → (p y : ℕ) → marked_in t before p y ≡ true
    → marked_in t after p y ≡ true
unfolding marked_in
grown_stays {t} g p y = g.stay (first_bit t.counts p + y)

-- the row of a receipt that is reachable
module _ (t : Table) (wf : WellFormed t) (roots : List ℕ) (i : ℕ) (known : i < process_count t) (r : ℕ) {before after : List ℕ}
    (row : SetFrom (first_bit t.counts i + r) (first_bit t.counts (suc i)) before after) where
  row_grows : Reachable t roots (state i r) → MarksGrown t roots before after
  row_grows reachable = record {
    kept = row_kept t i known r row;
    stay = row_stay t i known r row;
    no_others = λ p y l there e. by_place p y l there e (ℕ_discrete p i);
  }
    where
      by_number : (y : ℕ) → y ≤ count_of t i → marked_in t after i y ≡ true → Dec (r ≤ y)
          → (marked_in t before i y ≡ true) ⊎ Reachable t roots (state i y)
      by_number y there e (yes l) = inr (reach_up i r y known reachable l there)
      by_number y there e (no l) = inl (sym (row_below t i known r row y (omega arith)) ∙ e)

      by_place : (p y : ℕ) → p < process_count t → y ≤ count_of t p → marked_in t after p y ≡ true → Dec (p ≡ i)
          → (marked_in t before p y ≡ true) ⊎ Reachable t roots (state p y)
      by_place p y l there e (yes same) =
          subst⁻¹ (λ (q : ℕ). y ≤ count_of t q → marked_in t after q y ≡ true
          → (marked_in t before q y ≡ true) ⊎ Reachable t roots (state q y)) same
          (λ inside marked. by_number y inside marked (dec_le r y)) there e
      by_place p y l there e (no other) = inl (sym (row_other t i known r row p y other there) ∙ e)

  row_makes_ready : Ready t roots before → MarksGrown t roots before after → Ready t roots after
  row_makes_ready ready g = record {
    behind_roots = λ p y l above there. stays p y (ready.behind_roots p y l above there);
    behind_marked = λ p y l below e. by_place p y l below e (ℕ_discrete p i);
    follows = λ k d e. follow k d (w_good k d) e;
  }
    where
      stays : (p y : ℕ) → marked_in t before p y ≡ true → marked_in t after p y ≡ true
      stays = grown_stays g

      w_good : (k : ℕ) → 0 < (message_of t k).received → GoodMessage t (message_of t k)
      w_good k d = wf.good_messages k (message_in t k d)

      -- a message that was sent from a newly marked state, which is reachable, was received at a reachable one
      follow : (k : ℕ) → 0 < (message_of t k).received → GoodMessage t (message_of t k)
          → marked_in t after (message_of t k).sender (message_of t k).sent ≡ true
          → (marked_in t after (message_of t k).receiver (message_of t k).received ≡ true)
          ⊎ Reachable t roots (state (message_of t k).receiver (message_of t k).received)
      follow k d good e =
          ⊎_elim
          (λ was. ⊎_elim (λ h. inl (stays (message_of t k).receiver (message_of t k).received h)) inr (ready.follows k d was))
          (λ reachable. inr (reach_edge reachable (received k d)))
          (g.no_others (message_of t k).sender (message_of t k).sent good.sender_known (omega (arith, good.sent_below)) e)

      by_number : (y : ℕ) → y < count_of t i → marked_in t after i y ≡ true → Dec (r ≤ y) → marked_in t after i (suc y) ≡ true
      by_number y below e (yes l) = row_here t i known r row (suc y) (omega arith) below
      by_number y below e (no l) = stays i (suc y) (ready.behind_marked i y known below (sym (row_below t i known r row y (omega arith)) ∙ e))

      by_place : (p y : ℕ) → p < process_count t → y < count_of t p → marked_in t after p y ≡ true → Dec (p ≡ i)
          → marked_in t after p (suc y) ≡ true
      by_place p y l below e (yes same) =
          subst⁻¹ (λ (q : ℕ). y < count_of t q → marked_in t after q y ≡ true → marked_in t after q (suc y) ≡ true) same
          (λ inside marked. by_number y inside marked (dec_le r y)) below e
      by_place p y l below e (no other) =
          stays p (suc y) (ready.behind_marked p y l below (sym (row_other t i known r row p y other (omega arith)) ∙ e))

-- ---- one pass
-- The pass stands before message k. It has marked reachable states alone; until it marks, no message that it went over leads to
-- anything new, and once it has, fewer states are unmarked.
pub record MarkPassing (table roots start buffer : List ℕ) (marked : Bool) (m : ℕ) (sends receipts : List ℕ) (k : ℕ) : Type 0 where
  pub read : ReadMessages table m sends receipts
  pub lent : Lent (decode table) roots buffer
  pub within : k ≤ m
  pub grown : MarksGrown (decode table) roots start buffer
  pub ready : Ready (decode table) roots buffer
  pub at_rest : marked ≡ false → (j : ℕ) → k ≤ j → j < m → RestsAt (decode table) roots buffer j
  pub falls : marked ≡ true → unset buffer (bits (decode table)) < unset start (bits (decode table))

pub pass_begins : {table roots start : List ℕ} {m : ℕ} {sends receipts : List ℕ} → ReadMessages table m sends receipts
    → Lent (decode table) roots start → Ready (decode table) roots start → MarkPassing table roots start start false m sends receipts m
pass_begins {m = m} read lent up = record {
  read = read;
  lent = lent;
  within = le_refl m;
  grown = grown_none;
  ready = up;
  at_rest = λ _ j l l'. absurd (omega arith);
  falls = λ e. absurd (false≢true e);
}

module _ {table roots start buffer : List ℕ} {marked : Bool} {m : ℕ} {sends receipts : List ℕ} {k : ℕ}
    (w : MarkPassing table roots start buffer marked m sends receipts k) where
  abbrev t : Table
  t = decode table

  -- ---- the next message, k - 1
  module _ (more : 0 < k) where
    there : k - 1 < m
    there = omega (arith, w.within)

    abbrev here : Message
    here = message_of t (k - 1)

    good_here : GoodMessage t here
    good_here = good w.read there

    -- it leads to nothing new, and the pass goes on
    abbrev Skipped : Type 0
    Skipped = MarkPassing table roots start buffer marked m sends receipts (k - 1)

    skips : RestsAt t roots buffer (k - 1) → Skipped
    skips rests = record {
      read = w.read;
      lent = w.lent;
      within = omega (arith, w.within);
      grown = w.grown;
      ready = w.ready;
      at_rest = λ e j l l'. by_place e j l l' (ℕ_discrete j (k - 1));
      falls = w.falls;
    }
      where
        by_place : marked ≡ false → (j : ℕ) → k - 1 ≤ j → j < m → Dec (j ≡ k - 1) → RestsAt t roots buffer j
        by_place e j l l' (yes same) = subst⁻¹ (RestsAt t roots buffer) same rests
        by_place e j l l' (no other) = w.at_rest e j (omega arith) l'

    pub skips_undelivered : {r : ℕ} → r ≡ u16_at receipts (4 * (k - 1) + 2) → r ≡ 0 → Skipped
    unfolding RestsAt
    skips_undelivered r-read z = skips (λ d _. absurd (omega (arith, received_is w.read there r-read)))

-- ---- its receipt
-- The pass is at message k - 1, and the two numbers of its receipt were read. A prime marks the names above, of this message again.
pub record AtReceipt (table roots start buffer : List ℕ) (marked : Bool) (m : ℕ) (sends receipts : List ℕ) (k i r : ℕ) : Type 0 where
  pub passing : MarkPassing table roots start buffer marked m sends receipts k
  pub more : 0 < k
  pub receiver_read : i ≡ u16_at receipts (4 * (k - 1))
  pub received_read : r ≡ u16_at receipts (4 * (k - 1) + 2)

module _ {table roots start buffer : List ℕ} {marked : Bool} {m : ℕ} {sends receipts : List ℕ} {k i r : ℕ}
    (x : AtReceipt table roots start buffer marked m sends receipts k i r) where
  abbrev t' : Table
  t' = decode table

  abbrev here' : Message
  here' = message_of t' (k - 1)

  abbrev there' : k - 1 < m
  there' = there x.passing x.more

  good_here' : GoodMessage t' here'
  good_here' = good_here x.passing x.more

  r_is : r ≡ here'.received
  r_is = received_is x.passing.read there' x.received_read

  i_is : i ≡ here'.receiver
  i_is = receiver_is x.passing.read there' x.receiver_read

  pub receiver_known : i < process_count t'
  receiver_known = omega (arith, i_is, good_here'.receiver_known)

  pub received-there : r ≤ count_of t' i
  received-there = omega (arith, r_is, ap (count_of t') i_is, good_here'.received-within)

  -- the mark of its receipt
  receipt_mark : marked_in t' buffer here'.receiver here'.received ≡ marked_in t' buffer i r
  receipt_mark = ap₂ (marked_in t' buffer) (sym i_is) (sym r_is)

  pub skips_marked : marked_in t' buffer i r ≡ true → MarkPassing table roots start buffer marked m sends receipts (k - 1)
  unfolding RestsAt
  skips_marked e = skips x.passing x.more (λ _ _. receipt_mark ∙ e)

-- ---- its send
-- It was delivered, its receipt is not marked, and the two numbers of its send were read.
pub record AtSend (table roots start buffer : List ℕ) (marked : Bool) (m : ℕ) (sends receipts : List ℕ) (k i r j y : ℕ) : Type 0 where
  pub receipt : AtReceipt table roots start buffer marked m sends receipts k i r
  pub delivered : r ≡ 0 → ⊥
  pub unmarked : marked_in (decode table) buffer i r ≡ false
  pub sender_read : j ≡ u16_at sends (4 * (k - 1))
  pub sent_read : y ≡ u16_at sends (4 * (k - 1) + 2)

module _ {table roots start buffer : List ℕ} {marked : Bool} {m : ℕ} {sends receipts : List ℕ} {k i r j y : ℕ}
    (x : AtSend table roots start buffer marked m sends receipts k i r j y) where
  abbrev t'' : Table
  t'' = decode table

  abbrev here'' : Message
  here'' = message_of t'' (k - 1)

  abbrev passing'' : MarkPassing table roots start buffer marked m sends receipts k
  passing'' = x.receipt.passing

  good_here'' : GoodMessage t'' here''
  good_here'' = good_here' x.receipt

  j_is : j ≡ here''.sender
  j_is = sender_is passing''.read (there' x.receipt) x.sender_read

  y_is : y ≡ here''.sent
  y_is = sent_is passing''.read (there' x.receipt) x.sent_read

  pub sender_known : j < process_count t''
  sender_known = omega (arith, j_is, good_here''.sender_known)

  pub sent_there : y < count_of t'' j
  sent_there = omega (arith, y_is, ap (count_of t'') j_is, good_here''.sent_below)

  abbrev reached : Bool
  reached = eqb y (get_or roots j 0) || marked_in t'' buffer j y

  pub skips_unreached : reached ≡ false → MarkPassing table roots start buffer marked m sends receipts (k - 1)
  unfolding RestsAt
  skips_unreached e = skips passing'' x.receipt.more (λ _. ⊎_elim from_root is_marked)
    where
      not_root : eqb y (get_or roots j 0) ≡ false
      not_root = or_false_left (eqb y (get_or roots j 0)) (marked_in t'' buffer j y) e

      not_marked : marked_in t'' buffer j y ≡ false
      not_marked = or_false_right (eqb y (get_or roots j 0)) (marked_in t'' buffer j y) e

      from_root : here''.sent ≡ get_or roots here''.sender 0 → marked_in t'' buffer here''.receiver here''.received ≡ true
      from_root h = absurd (false≢true (sym not_root ∙ eq-eqb y (get_or roots j 0) (y_is ∙ h ∙ ap (λ (p : ℕ). get_or roots p 0) (sym j_is))))

      is_marked : marked_in t'' buffer here''.sender here''.sent ≡ true → marked_in t'' buffer here''.receiver here''.received ≡ true
      is_marked h = absurd (false≢true (sym not_marked ∙ ap₂ (marked_in t'' buffer) j_is y_is ∙ h))

  -- ---- it leads to a new state
  module _ (from-there : reached ≡ true) where
    received_here : 0 < here''.received
    received_here = omega (arith, r_is x.receipt, x.delivered)

    message_reachable : Reachable t'' roots (state here''.receiver here''.received)
    message_reachable = by_root (eqb y (get_or roots j 0)) refl from-there
      where
        by_root : (a : Bool) → eqb y (get_or roots j 0) ≡ a → (a || marked_in t'' buffer j y) ≡ true
            → Reachable t'' roots (state here''.receiver here''.received)
        by_root true e _ =
            let at : here''.sent ≡ get_or roots here''.sender 0 = sym y_is ∙ eqb-true y (get_or roots j 0) e ∙ ap (λ (p : ℕ). get_or roots p 0) j_is in
            reach_root here''.sender here''.sent good_here''.sender_known (omega (arith, at)) (omega (arith, good_here''.sent_below))
            (received (k - 1) received_here)
        by_root false _ e =
            ⊎_elim
            (λ (h : marked_in t'' buffer here''.receiver here''.received ≡ true).
            absurd (false≢true (sym (receipt_mark x.receipt ∙ x.unmarked) ∙ h)))
            (λ (h : Reachable t'' roots (state here''.receiver here''.received)). h)
            (passing''.ready.follows (k - 1) received_here (sym (ap₂ (marked_in t'' buffer) j_is y_is) ∙ e))

    receipt_reachable : Reachable t'' roots (state i r)
    receipt_reachable =
        subst⁻¹ (λ (p : ℕ). Reachable t'' roots (state p r)) (i_is x.receipt)
        (subst⁻¹ (λ (n : ℕ). Reachable t'' roots (state here''.receiver n)) (r_is x.receipt) message_reachable)

    abbrev known : i < process_count t''
    known = receiver_known x.receipt

    -- its receipt is marked, and the states behind it; n is its number, as the code hands it on
    module _ {n : ℕ} (n_is : n ≡ r) where
      pub row_ready : Onwards (first_bit t''.counts i + n) (first_bit t''.counts (suc i)) buffer
      row_ready =
          subst⁻¹ (λ (x : ℕ). Onwards (first_bit t''.counts i + x) (first_bit t''.counts (suc i)) buffer) n_is
          (row_onwards t'' i known r passing''.ready)

      pub pass_marks : {after : List ℕ} → SetFrom (first_bit t''.counts i + n) (first_bit t''.counts (suc i)) buffer after
          → MarkPassing table roots start after true m sends receipts (k - 1)
      unfolding marked_in count_of
      pass_marks {after} raw = record {
        read = passing''.read;
        lent = lent_kept passing''.lent grows.kept;
        within = omega (arith, passing''.within);
        grown = grown_both passing''.grown grows;
        ready = row_makes_ready t'' wf roots i known r row passing''.ready grows;
        at_rest = λ f. absurd (true≢false f);
        falls = λ _. omega (arith, step, unset_fewer start buffer (bits t'') (λ x _. passing''.grown.stay x));
      }
        where
          row : SetFrom (first_bit t''.counts i + r) (first_bit t''.counts (suc i)) buffer after
          row = subst (λ (x : ℕ). SetFrom (first_bit t''.counts i + x) (first_bit t''.counts (suc i)) buffer after) n_is raw

          wf : WellFormed t''
          wf = (facts table passing''.read.accepted).well_formed

          grows : MarksGrown t'' roots buffer after
          grows = row_grows t'' wf roots i known r row receipt_reachable

          in_bits : first_bit t''.counts i + r < bits t''
          in_bits = omega (arith, first_apart t''.counts i (process_count t'') known, received-there x.receipt)

          step : unset after (bits t'') < unset buffer (bits t'')
          step =
              unset_falls buffer after (bits t'') (λ x _. row_stay t'' i known r row x) (first_bit t''.counts i + r) in_bits x.unmarked
              (row_here t'' i known r row r (le_refl r) (received-there x.receipt))

-- ---- the marks that a buffer holds
module _ (t : Table) (buffer : List ℕ) where
  pub marks_in_lem : (s : State) → s.process < process_count t → s.number ≤ count_of t s.process → marked_in t buffer s.process s.number ≡ true
      → marks_in t buffer s ≡ true
  unfolding marks_in
  marks_in_lem s l l' e = rw (lt-ltb s.process (process_count t) l, le-leb s.number (count_of t s.process) l', e)

  -- as the procedure has them: of a state of the run
  pub record IsMarked (s : State) : Type 0 where
    pub known : s.process < process_count t
    pub there : s.number ≤ count_of t s.process
    pub set : marked_in t buffer s.process s.number ≡ true

  pub marks_are : (s : State) → marks_in t buffer s ≡ true → IsMarked s
  unfolding marks_in
  marks_are s e =
      let rest = and_right (ltb s.process (process_count t)) _ e in
      record {
        known = ltb-true s.process (process_count t) (and_left (ltb s.process (process_count t)) _ e);
        there = leb-true s.number (count_of t s.process) (and_left (leb s.number (count_of t s.process)) _ rest);
        set = and_right (leb s.number (count_of t s.process)) _ rest;
      }

  -- of a state of the run, they are its bit
  pub marks_bit : (p y : ℕ) → p < process_count t → y ≤ count_of t p → marks_in t buffer (state p y) ≡ marked_in t buffer p y
  unfolding marks_in
  marks_bit p y l l' = rw (lt-ltb p (process_count t) l, le-leb y (count_of t p) l')

-- ---- all passes
-- where no message leads to anything new, all that is reachable is marked
module _ (t : Table) (wf : WellFormed t) (roots : List ℕ) (buffer : List ℕ) (ready : Ready t roots buffer)
    (at_rest : (k : ℕ) → k < message_count t → RestsAt t roots buffer k) where
  -- a state at its process's root or behind it, or a marked one
  abbrev From : State → Type 0
  From a = (get_or roots a.process 0 ≤ a.number) ⊎ (marked_in t buffer a.process a.number ≡ true)

  edge_marked : {a b : State} → Edge t a b → From a → marked_in t buffer b.process b.number ≡ true
  unfolding RestsAt
  edge_marked (to_next p y known there) (inl l) = ready.behind_roots p (suc y) known (omega arith) there
  edge_marked (to_next p y known there) (inr e) = ready.behind_marked p y known there e
  edge_marked (received k d) (inr e) = at_rest k (message_in t k d) d (inr e)
  edge_marked (received k d) (inl l) =
      at_rest k (message_in t k d) d (by_number (ℕ_discrete (message_of t k).sent (get_or roots (message_of t k).sender 0)))
    where
      good_one : GoodMessage t (message_of t k)
      good_one = wf.good_messages k (message_in t k d)

      by_number : Dec ((message_of t k).sent ≡ get_or roots (message_of t k).sender 0)
          → ((message_of t k).sent ≡ get_or roots (message_of t k).sender 0)
          ⊎ (marked_in t buffer (message_of t k).sender (message_of t k).sent ≡ true)
      by_number (yes same) = inl same
      by_number (no other) =
          inr (ready.behind_roots (message_of t k).sender (message_of t k).sent good_one.sender_known (omega arith)
          (omega (arith, good_one.sent_below)))

  leads_marked : {a b : State} → Leads t a b → From a → marked_in t buffer b.process b.number ≡ true
  leads_marked = leads_carry From (λ b. marked_in t buffer b.process b.number ≡ true) (λ a b. edge_marked) (λ a. inr)

  all_marked : (s : State) → Reachable t roots s → marks_in t buffer s ≡ true
  all_marked s r =
      let is = leads_to t wf r.leads in
      marks_in_lem t buffer s is.known is.there (leads_marked r.leads (inl (le_refl (get_or roots r.from 0))))

  pub reached_all : {start : List ℕ} → MarksGrown t roots start buffer → Reached t roots start buffer
  unfolding RestsAt Closed
  reached_all {start} g = record {
    kept = g.kept;
    ready = ready;
    closed = λ k d e. at_rest k (message_in t k d) d (inr e);
    marking = record {
      stay = λ s e.
          let is = marks_are t start s e in
          marks_in_lem t buffer s is.known is.there (grown_stays g s.process s.number is.set);
      reached = all_marked;
      no_others = λ s e.
          let is = marks_are t buffer s e in
          ⊎_elim (λ was. inl (marks_in_lem t start s is.known is.there was)) inr (g.no_others s.process s.number is.known is.there is.set);
    };
  }

-- the invariant of the passes
pub record Growing (t : Table) (roots start buffer : List ℕ) : Type 0 where
  pub lent : Lent t roots buffer
  pub grown : MarksGrown t roots start buffer
  pub ready : Ready t roots buffer

module _ {t : Table} {roots start buffer after : List ℕ} {marked : Bool} (w : Growing t roots start buffer)
    (p : PassMade t roots buffer after marked) where
  pub passes_end : WellFormed t → marked ≡ false → Reached t roots start after
  passes_end wf e = reached_all t wf roots after p.ready (p.at_rest e) (grown_both w.grown p.grown)
