-- What is strictly reachable from a root set. Of each process it is the states from some number on, so it is told by these numbers, its
-- lows; they come down by the received messages, one after another, until none brings one down.
--     reach_edge, reach_root, reach_up    what a reachable state, a root and the states behind it lead to
--     Lows                                lows of which it is known that the states from them on are reachable
--     applies, lows_start, lows_step      a message that brings one down; where they start, and one such message
--     lows_closed                         where no message does, nothing else is reachable
--     marking_made                        all that is reachable can be marked, whatever was marked before
-- Assumes nothing.
use mathlib.Core.Bool.{Bool, true, false, ◌&&◌, ◌||◌, false≢true}
use mathlib.Core.List.{List}
use mathlib.Core.Logic.{◌⊎◌, inl, inr}
use mathlib.Core.Path.{◌≡◌, refl, sym, ap, ◌∙◌, subst, subst⁻¹}
use Prim.Native.Nat.{ℕ, zero, suc, ◌≤◌, ◌<◌, min}
use native.Mathlib.Decide.{dec_le, ℕ_discrete}
use native.Mathlib.Nat.{le_refl}
use native.Mathlib.Omega.{arith}
use borrow.Author.Tests.{le-leb, leb-true, lt-ltb, ltb-true}
use lib.Dec.{leb, ltb}
use lib.ListN.{get_or, length, length-set, set}
use lib.Seq.{get_or-set_other, get_or-set_same}
use Rattle.checkpoint_graph.proofs.GraphLaws.{leads_carry, leads_on, leads_to, leads_up}
use Rattle.tables.proofs.FormatLaws.{message_in}
use Rattle.checkpoint_graph.specs.Graph.{Edge, Leads, State, edge, received, state, then, to_next}
use Rattle.consistency.proofs.LoweringLaws.{sum_falls}
use Rattle.marking.specs.Procedure.{Marks, MarksReachable, Reachable}
use Rattle.tables.proofs.ListLaws.{and_left, and_right, found_below, get_or_tabulate, length-tabulate, none_below}
use Rattle.tables.specs.Checks.{GoodMessage, WellFormed}
use Rattle.tables.specs.Lists.{any_below, sum, tabulate}
use Rattle.tables.specs.Table.{Message, Table, count_of, message_count, message_of, process_count}

module _ {t : Table} {roots : List ℕ} where
  pub reach_edge : {a b : State} → Reachable t roots a → Edge t a b → Reachable t roots b
  reach_edge r e = record { from = r.from; known = r.known; leads = then r.leads e }

  -- what a root leads to, or a state behind it
  pub reach_root : {b : State} (p y : ℕ) → p < process_count t → get_or roots p 0 ≤ y → y ≤ count_of t p → Edge t (state p y) b
      → Reachable t roots b
  reach_root {b} p y known above there e = go (ℕ_discrete (get_or roots p 0) y)
    where
      go : Dec (get_or roots p 0 ≡ y) → Reachable t roots b
      go (yes same) = record { from = p; known = known; leads = edge (subst⁻¹ (λ (n : ℕ). Edge t (state p n) b) same e) }
      go (no other) =
          record { from = p; known = known; leads = then (leads_up t p known (get_or roots p 0) y (omega arith) there) e }

  -- the later states of a process
  pub reach_up : (p y y' : ℕ) → p < process_count t → Reachable t roots (state p y) → y ≤ y' → y' ≤ count_of t p
      → Reachable t roots (state p y')
  reach_up p y y' known r l there = go (ℕ_discrete y y')
    where
      go : Dec (y ≡ y') → Reachable t roots (state p y')
      go (yes same) = subst (λ (n : ℕ). Reachable t roots (state p n)) same r
      go (no other) = record { from = r.from; known = r.known; leads = leads_on r.leads (leads_up t p known y y' (omega arith) there) }

-- ---- lows
-- The states from them on are reachable, and those behind the roots are among these.
pub record Lows (t : Table) (roots lows : List ℕ) : Type 0 where
  pub for_each : length lows ≡ process_count t
  pub behind_roots : (p : ℕ) → p < process_count t → get_or lows p 0 ≤ suc (get_or roots p 0)
  pub reachable : (p y : ℕ) → p < process_count t → get_or lows p 0 ≤ y → y ≤ count_of t p → Reachable t roots (state p y)

-- Message k brings a low down: it was received, sent at its sender's root or from a state that is reachable, and received below the low.
abbrev applies : Table → List ℕ → List ℕ → ℕ → Bool
applies t roots lows k =
    ltb 0 (message_of t k).received
    && (leb (min (get_or lows (message_of t k).sender 0) (get_or roots (message_of t k).sender 0)) (message_of t k).sent
    && ltb (message_of t k).received (get_or lows (message_of t k).receiver 0))

module _ (t : Table) (w : WellFormed t) (roots : List ℕ) where
  behind : ℕ → ℕ
  behind p = suc (get_or roots p 0)

  lows_start : Lows t roots (tabulate (process_count t) behind)
  unfolding behind
  lows_start = record {
    for_each = length-tabulate (process_count t) behind;
    behind_roots = λ p l. omega (arith, get_or_tabulate (process_count t) behind p 0 l);
    reachable = λ p y l above there.
        record { from = p; known = l; leads = leads_up t p l (get_or roots p 0) y (omega (arith, get_or_tabulate (process_count t) behind p 0 l)) there };
  }

  module _ (lows : List ℕ) (h : Lows t roots lows) (k : ℕ) (a : applies t roots lows k ≡ true) where
    abbrev m : Message
    m = message_of t k

    abbrev low : ℕ → ℕ
    low p = get_or lows p 0

    delivered : 0 < m.received
    delivered = ltb-true 0 m.received (and_left (ltb 0 m.received) _ a)

    sent_there : min (low m.sender) (get_or roots m.sender 0) ≤ m.sent
    sent_there =
        leb-true (min (low m.sender) (get_or roots m.sender 0)) m.sent
        (and_left (leb (min (low m.sender) (get_or roots m.sender 0)) m.sent) _ (and_right (ltb 0 m.received) _ a))

    below : m.received < low m.receiver
    below =
        ltb-true m.received (low m.receiver)
        (and_right (leb (min (low m.sender) (get_or roots m.sender 0)) m.sent) _ (and_right (ltb 0 m.received) _ a))

    good : GoodMessage t m
    good = w.good_messages k (message_in t k delivered)

    lows_fall : sum (set lows m.receiver m.received) < sum lows
    lows_fall = sum_falls lows m.receiver m.received below

    receipt_reachable : Reachable t roots (state m.receiver m.received)
    receipt_reachable = go (dec_le (low m.sender) m.sent)
      where
        go : Dec (low m.sender ≤ m.sent) → Reachable t roots (state m.receiver m.received)
        go (yes l) =
            reach_edge (h.reachable m.sender m.sent good.sender_known l (omega (arith, good.sent_below))) (received k delivered)
        go (no l) =
            reach_root m.sender m.sent good.sender_known (omega (arith, sent_there)) (omega (arith, good.sent_below)) (received k delivered)

    lows_step : Lows t roots (set lows m.receiver m.received)
    lows_step = record {
      for_each = length-set lows m.receiver m.received ∙ h.for_each;
      behind_roots = λ p l. by_place_behind p l (ℕ_discrete p m.receiver);
      reachable = λ p y l above there. by_place p y l above there (ℕ_discrete p m.receiver);
    }
      where
        after : List ℕ
        after = set lows m.receiver m.received

        here : get_or after m.receiver 0 ≡ m.received
        here = get_or-set_same lows m.receiver m.received 0 (omega (arith, good.receiver_known, h.for_each))

        elsewhere : (p : ℕ) → (p ≡ m.receiver → ⊥) → get_or after p 0 ≡ low p
        elsewhere p other = get_or-set_other lows m.receiver p m.received 0 other

        by_place_behind : (p : ℕ) → p < process_count t → Dec (p ≡ m.receiver) → get_or after p 0 ≤ suc (get_or roots p 0)
        by_place_behind p l (yes same) =
            subst⁻¹ (λ (q : ℕ). get_or after q 0 ≤ suc (get_or roots q 0)) same
            (omega (arith, here, below, h.behind_roots m.receiver good.receiver_known))
        by_place_behind p l (no other) = omega (arith, elsewhere p other, h.behind_roots p l)

        by_place : (p y : ℕ) → p < process_count t → get_or after p 0 ≤ y → y ≤ count_of t p → Dec (p ≡ m.receiver)
            → Reachable t roots (state p y)
        by_place p y l above there (yes same) =
            subst⁻¹ (λ (q : ℕ). y ≤ count_of t q → m.received ≤ y → Reachable t roots (state q y)) same
            (λ inside high. reach_up m.receiver m.received y good.receiver_known receipt_reachable high inside) there
            (omega (arith, here, ap (λ (q : ℕ). get_or after q 0) same))
        by_place p y l above there (no other) = h.reachable p y l (omega (arith, elsewhere p other)) there

  -- ---- lows that no message brings down
  pub record AtRest : Type 0 where
    pub lows : List ℕ
    pub known : Lows t roots lows
    pub at_rest : (k : ℕ) → k < message_count t → applies t roots lows k ≡ false

  close : (fuel : ℕ) (lows : List ℕ) → Lows t roots lows → sum lows ≤ fuel → AtRest
  close zero lows h l = record { lows = lows; known = h; at_rest = λ k _. is_false k (applies t roots lows k) refl }
    where
      is_false : (k : ℕ) (b : Bool) → applies t roots lows k ≡ b → b ≡ false
      is_false k true e = absurd (omega (arith, lows_fall lows h k e))
      is_false k false e = refl
  close (suc fuel) lows h l = go (any_below (message_count t) (applies t roots lows)) refl (close fuel)
    where
      go : (b : Bool) → any_below (message_count t) (applies t roots lows) ≡ b
          → ((lows' : List ℕ) → Lows t roots lows' → sum lows' ≤ fuel → AtRest) → AtRest
      go true e again =
          let found = found_below (applies t roots lows) (message_count t) e in
          again (set lows (message_of t found.0).receiver (message_of t found.0).received) (lows_step lows h found.0 found.2)
          (omega (arith, lows_fall lows h found.0 found.2))
      go false e again = record { lows = lows; known = h; at_rest = none_below (applies t roots lows) (message_count t) e }

  closed : AtRest
  closed = close (sum (tabulate (process_count t) behind)) (tabulate (process_count t) behind) lows_start (le_refl _)

  -- a state at its process's root, or behind it, or from its low on
  abbrev Within : List ℕ → State → Type 0
  Within lows a = min (get_or lows a.process 0) (get_or roots a.process 0) ≤ a.number

  module _ (c : AtRest) where
    edge-closed : {a b : State} → Edge t a b → Within c.lows a → get_or c.lows b.process 0 ≤ b.number
    edge-closed (to_next p y known there) within = omega (arith, within, c.known.behind_roots p known)
    edge-closed (received k d) within = go (dec_le (get_or c.lows (message_of t k).receiver 0) (message_of t k).received)
      where
        go : Dec (get_or c.lows (message_of t k).receiver 0 ≤ (message_of t k).received)
            → get_or c.lows (message_of t k).receiver 0 ≤ (message_of t k).received
        go (yes l) = l
        go (no l) =
            let applied : applies t roots c.lows k ≡ true = rw (
              lt-ltb 0 (message_of t k).received d,
              le-leb (min (get_or c.lows (message_of t k).sender 0) (get_or roots (message_of t k).sender 0)) (message_of t k).sent within,
              lt-ltb (message_of t k).received (get_or c.lows (message_of t k).receiver 0) (omega arith),
            ) in
            absurd (false≢true (sym (c.at_rest k (message_in t k d)) ∙ applied))

    leads-closed : {a b : State} → Leads t a b → Within c.lows a → get_or c.lows b.process 0 ≤ b.number
    leads-closed = leads_carry (Within c.lows) (λ b. get_or c.lows b.process 0 ≤ b.number) (λ a b. edge-closed) (λ a h. omega arith)

    -- the states from the lows on
    behind_lows : Marks
    behind_lows s = ltb s.process (process_count t) && (leb (get_or c.lows s.process 0) s.number && leb s.number (count_of t s.process))

    lows_closed : (s : State) → Reachable t roots s → behind_lows s ≡ true
    unfolding behind_lows
    lows_closed s r =
        let is = leads_to t w r.leads in
        rw (
          lt-ltb s.process (process_count t) is.known,
          le-leb s.number (count_of t s.process) is.there,
          le-leb (get_or c.lows s.process 0) s.number (leads-closed r.leads (omega arith)),
        )

    lows_reachable : (s : State) → behind_lows s ≡ true → Reachable t roots s
    unfolding behind_lows
    lows_reachable s e =
        let rest = and_right (ltb s.process (process_count t)) _ e in
        c.known.reachable s.process s.number (ltb-true s.process (process_count t) (and_left (ltb s.process (process_count t)) _ e))
        (leb-true (get_or c.lows s.process 0) s.number (and_left (leb (get_or c.lows s.process 0) s.number) _ rest))
        (leb-true s.number (count_of t s.process) (and_right (leb (get_or c.lows s.process 0) s.number) _ rest))

  -- all that is reachable can be marked, whatever was marked before
  pub marking_made : (before : Marks) → (after : Marks) × MarksReachable t roots before after
  marking_made before = (
    λ s. before s || behind_lows closed s,
    record {
      stay = λ s e. rw e;
      reached = λ s r. or_right (before s) (lows_closed closed s r);
      no_others = λ s e. by_left s (before s) refl e;
    },
  )
    where
      or_right : (a : Bool) {b : Bool} → b ≡ true → (a || b) ≡ true
      or_right true e = refl
      or_right false e = e

      by_left : (s : State) (b : Bool) → before s ≡ b → (b || behind_lows closed s) ≡ true → (before s ≡ true) ⊎ Reachable t roots s
      by_left s true e _ = inl e
      by_left s false e both = inr (lows_reachable closed s both)
