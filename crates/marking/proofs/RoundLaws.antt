-- What holds after some rounds of the marking procedure, and how the next one is made.
--     leads_above               what a state at or above a consistent line leads to is above that line
--     Above, stage_above        so the roots stay at or above each consistent line under the ceilings, and what is marked is above it
--     stage_later, stage_for_each, stage_below    the states behind the roots; the roots beside the ceilings
--     stage_sum                 rounds and the sum of the roots, together no more than the sum of the ceilings
--     round_lower, round_falls  a marked root goes down, so their sum falls with each round
--     zero_unmarked, round_made state 0 is never marked, so a process has a latest unmarked state, and where a root is marked a round can be made
--     rounds-stay               what is marked stays marked in all later rounds
--     end_consistent            where no root is marked they are a consistent line
-- Assumes nothing.
use mathlib.Core.Bool.{Bool, true, false, cond, false≢true}
use mathlib.Core.List.{List}
use mathlib.Core.Logic.{⊎_elim}
use mathlib.Core.Path.{◌≡◌, refl, sym, ap, ◌∙◌, subst, subst⁻¹}
use Prim.Native.Nat.{ℕ, zero, suc, ◌+◌, ◌≤◌, ◌<◌}
use native.Mathlib.Decide.{dec_le, dec_lt, ℕ_discrete}
use native.Mathlib.Nat.{le_refl, le_trans}
use native.Mathlib.Omega.{arith}
use lib.ListN.{get_or, length}
use Rattle.checkpoint_graph.proofs.GraphLaws.{leads_carry, leads_up}
use Rattle.tables.proofs.FormatLaws.{message_in}
use Rattle.checkpoint_graph.specs.Graph.{Edge, Leads, State, received, state, to_next}
use Rattle.consistency.proofs.LineLaws.{orphan_free, zero_consistent}
use Rattle.consistency.specs.Ceilings.{Ceiling}
use Rattle.consistency.specs.Lines.{AtOrBelow, Consistent, Line, as_line}
use Rattle.marking.proofs.ReachLaws.{marking_made, reach_root, reach_up}
use Rattle.marking.specs.Procedure.{After, LatestUnmarked, NoneMarked, Reachable, Round, Rounds, Stage, root}
use Rattle.tables.proofs.ListLaws.{get_or_tabulate, length-tabulate, sum-lower}
use Rattle.tables.specs.Checks.{WellFormed}
use Rattle.tables.specs.Lists.{sum, tabulate}
use Rattle.tables.specs.Table.{Table, count_of, message_of, process_count}

-- ---- a consistent line
module _ (t : Table) (l : Line) (c : Consistent t.messages l) where
  edge_above : {a b : State} → Edge t a b → l a.process ≤ a.number → l b.process < b.number
  unfolding message_of
  edge_above (to_next p y known there) h = omega arith
  edge_above (received k d) h = orphan_free (message_of t k) l (c k) d h

  -- a line has no orphan, so a path that leaves it goes beyond it
  leads_above : {a b : State} → Leads t a b → l a.process ≤ a.number → l b.process < b.number
  leads_above = leads_carry (λ a. l a.process ≤ a.number) (λ b. l b.process < b.number) (λ a b. edge_above) (λ a h. omega arith)

  reachable_above : {roots : List ℕ} {s : State} → ((p : ℕ) → p < process_count t → l p ≤ get_or roots p 0) → Reachable t roots s
      → l s.process < s.number
  reachable_above above r = leads_above r.leads (above r.from r.known)

-- The roots are at or above a line, and what is marked is above it.
pub record Above (t : Table) (l : Line) (s : Stage) : Type 0 where
  pub roots : (p : ℕ) → p < process_count t → l p ≤ get_or s.roots p 0
  pub marks : (x : State) → s.marks x ≡ true → l x.process < x.number

-- ---- marks stay
pub rounds-stay : (t : Table) (n : ℕ) (s s' : Stage) → Rounds t n s s' → (x : State) → s.marks x ≡ true → s'.marks x ≡ true
unfolding Rounds
rounds-stay t zero s s' same x e = subst (λ (s : Stage). s.marks x ≡ true) same e
rounds-stay t (suc n) s s' r x e = rounds-stay t n r.0 s' r.2 x (r.1.marking.stay x e)

module _ (t : Table) (ceilings : List ℕ) (c : Ceiling t ceilings) where
  module _ (l : Line) (consistent : Consistent t.messages l) (under : AtOrBelow l (as_line ceilings)) where
    -- a marked root gives way to a state that is at or above the line: its own state there is not marked
    round_above : {s s' : Stage} → Round t s s' → Above t l s → Above t l s'
    round_above {s} {s'} r a = record {
      roots = above;
      marks = λ x e. ⊎_elim (a.marks x) (reachable_above t l consistent above) (r.marking.no_others x e);
    }
      where
        not_passed : (p : ℕ) → p < process_count t → LatestUnmarked t s.marks p (get_or s'.roots p 0) → Dec (l p ≤ get_or s'.roots p 0)
            → l p ≤ get_or s'.roots p 0
        not_passed p known u (yes h) = h
        not_passed p known u (no h) =
            absurd (omega (arith, a.marks (state p (l p)) (u.later (l p) (omega arith) (le_trans (under p) (c.within p)))))

        by_mark : (p : ℕ) → p < process_count t → (b : Bool) → s.marks (root s.roots p) ≡ b → l p ≤ get_or s'.roots p 0
        by_mark p known true e = not_passed p known (r.gives_way p known e) (dec_le (l p) (get_or s'.roots p 0))
        by_mark p known false e = omega (arith, r.stays p known e, a.roots p known)

        above : (p : ℕ) → p < process_count t → l p ≤ get_or s'.roots p 0
        above p known = by_mark p known (s.marks (root s.roots p)) refl

    pub stage_above : (n : ℕ) (s : Stage) → After t ceilings n s → Above t l s
    unfolding After
    stage_above zero s a = record {
      roots = at_ceilings;
      marks = λ x e. ⊎_elim (λ (f : false ≡ true). absurd (false≢true f)) (reachable_above t l consistent at_ceilings) (a.marking.no_others x e);
    }
      where
        at_ceilings : (p : ℕ) → p < process_count t → l p ≤ get_or s.roots p 0
        at_ceilings p known = subst⁻¹ (λ (roots : List ℕ). l p ≤ get_or roots p 0) a.at_ceilings (under p)
    stage_above (suc n) s a = round_above a.2 (stage_above n a.0 a.1)

  -- the marks of a stage: those of its last marking
  marked_now : (n : ℕ) (s : Stage) → After t ceilings n s → (x : State) → Reachable t s.roots x → s.marks x ≡ true
  unfolding After
  marked_now zero s a = a.marking.reached
  marked_now (suc n) s a = a.2.marking.reached

  -- the states behind the roots are marked
  pub stage_later : (n : ℕ) (s : Stage) → After t ceilings n s → (p y : ℕ) → p < process_count t → get_or s.roots p 0 < y → y ≤ count_of t p
      → s.marks (state p y) ≡ true
  stage_later n s a p y known l there =
      marked_now n s a (state p y) (record { from = p; known = known; leads = leads_up t p known (get_or s.roots p 0) y l there })

  pub stage_for_each : (n : ℕ) (s : Stage) → After t ceilings n s → length s.roots ≡ process_count t
  unfolding After
  stage_for_each zero s a = ap length a.at_ceilings ∙ c.for_each
  stage_for_each (suc n) s a = a.2.for_each ∙ stage_for_each n a.0 a.1

  -- ---- a round brings a marked root down
  module _ (n : ℕ) (s s' : Stage) (a : After t ceilings n s) (r : Round t s s') where
    gives_lower : (p : ℕ) → p < process_count t → s.marks (root s.roots p) ≡ true → get_or s'.roots p 0 < get_or s.roots p 0
    gives_lower p known e = go (dec_lt (get_or s'.roots p 0) (get_or s.roots p 0))
      where
        u : LatestUnmarked t s.marks p (get_or s'.roots p 0)
        u = r.gives_way p known e

        marked_there : (y : ℕ) → get_or s.roots p 0 ≤ y → y ≤ count_of t p → Dec (get_or s.roots p 0 ≡ y) → s.marks (state p y) ≡ true
        marked_there y l there (yes same) = subst (λ (y : ℕ). s.marks (state p y) ≡ true) same e
        marked_there y l there (no other) = stage_later n s a p y known (omega arith) there

        go : Dec (get_or s'.roots p 0 < get_or s.roots p 0) → get_or s'.roots p 0 < get_or s.roots p 0
        go (yes l) = l
        go (no l) =
            absurd (false≢true (sym u.unmarked ∙ marked_there (get_or s'.roots p 0) (omega arith) u.there (ℕ_discrete (get_or s.roots p 0) _)))

    pub round_lower : (p : ℕ) → p < process_count t → get_or s'.roots p 0 ≤ get_or s.roots p 0
    round_lower p known = by_mark (s.marks (root s.roots p)) refl
      where
        by_mark : (b : Bool) → s.marks (root s.roots p) ≡ b → get_or s'.roots p 0 ≤ get_or s.roots p 0
        by_mark true e = omega (arith, gives_lower p known e)
        by_mark false e = omega (arith, r.stays p known e)

    pub round_falls : sum s'.roots < sum s.roots
    round_falls =
        let one = r.some_marked in
        let each = stage_for_each n s a in
        sum-lower s'.roots s.roots r.for_each (λ p l. round_lower p (omega (arith, each))) one.0 (omega (arith, one.1, each))
        (gives_lower one.0 one.1 one.2)

  pub stage_below : (n : ℕ) (s : Stage) → After t ceilings n s → (p : ℕ) → p < process_count t → get_or s.roots p 0 ≤ as_line ceilings p
  unfolding After
  stage_below zero s a p known = subst⁻¹ (λ (roots : List ℕ). get_or roots p 0 ≤ as_line ceilings p) a.at_ceilings (le_refl _)
  stage_below (suc n) s a p known = le_trans (round_lower n a.0 s a.1 a.2 p known) (stage_below n a.0 a.1 p known)

  pub stage_sum : (n : ℕ) (s : Stage) → After t ceilings n s → n + sum s.roots ≤ sum ceilings
  unfolding After
  stage_sum zero s a = omega (arith, ap sum a.at_ceilings)
  stage_sum (suc n) s a = omega (arith, stage_sum n a.0 a.1, round_falls n a.0 s a.1 a.2)

  -- ---- the next round
  -- the latest unmarked number at or below n, where 0 is unmarked
  abbrev LatestBelow : (ℕ → Bool) → ℕ → Type 0
  LatestBelow marked n = (y : ℕ) × (y ≤ n) × (marked y ≡ false) × ((y' : ℕ) → y < y' → y' ≤ n → marked y' ≡ true)

  latest_below : (marked : ℕ → Bool) (n : ℕ) → marked 0 ≡ false → LatestBelow marked n
  latest_below marked zero e = (0, le_refl 0, e, λ y' l l'. absurd (omega arith))
  latest_below marked (suc n) e = go (marked (suc n)) refl (latest_below marked n e)
    where
      go : (b : Bool) → marked (suc n) ≡ b → LatestBelow marked n → LatestBelow marked (suc n)
      go false here below = (suc n, le_refl (suc n), here, λ y' l l'. absurd (omega arith))
      go true here below = (below.0, omega (arith, below.1), below.2, λ y' l l'. by_place y' l l' (ℕ_discrete y' (suc n)))
        where
          by_place : (y' : ℕ) → below.0 < y' → y' ≤ suc n → Dec (y' ≡ suc n) → marked y' ≡ true
          by_place y' l l' (yes same) = subst⁻¹ (λ (y : ℕ). marked y ≡ true) same here
          by_place y' l l' (no other) = below.3 y' l (omega arith)

  module _ (w : WellFormed t) (n : ℕ) (s : Stage) (a : After t ceilings n s) where
    -- state 0 is never marked: the line of zeros is consistent
    pub zero_unmarked : (p : ℕ) → s.marks (state p 0) ≡ false
    zero_unmarked p = go (s.marks (state p 0)) refl
      where
        go : (b : Bool) → s.marks (state p 0) ≡ b → b ≡ false
        go false e = refl
        go true e =
            absurd (omega (arith, (stage_above (λ _. 0) (zero_consistent t.messages (λ _. 0) (λ p. refl)) (λ p. omega arith) n s a).marks (state p 0) e))

    latest : (p : ℕ) → LatestBelow (λ y. s.marks (state p y)) (count_of t p)
    latest p = latest_below (λ y. s.marks (state p y)) (count_of t p) (zero_unmarked p)

    next : ℕ → ℕ
    next p = cond (s.marks (root s.roots p)) (latest p).0 (get_or s.roots p 0)

    pub round_made : (p : ℕ) × (p < process_count t) × (s.marks (root s.roots p) ≡ true) → (s' : Stage) × Round t s s'
    unfolding next
    round_made some =
        let roots' = tabulate (process_count t) next in
        let made = marking_made t w roots' s.marks in
        let at : (p : ℕ) → p < process_count t → get_or roots' p 0 ≡ next p = λ p l. get_or_tabulate (process_count t) next p 0 l in (
          record { roots = roots'; marks = made.0 },
          record {
            some_marked = some;
            for_each = length-tabulate (process_count t) next ∙ sym (stage_for_each n s a);
            gives_way = λ p l e. subst⁻¹ (LatestUnmarked t s.marks p) (at p l ∙ ap (λ (b : Bool). cond b (latest p).0 (get_or s.roots p 0)) e)
                (record { there = (latest p).1; unmarked = (latest p).2; later = (latest p).3 });
            stays = λ p l e. at p l ∙ ap (λ (b : Bool). cond b (latest p).0 (get_or s.roots p 0)) e;
            marking = made.1;
          },
        )

    -- ---- the end
    -- an orphan of the roots would lead from one root to another, and that one would be marked
    pub end_consistent : NoneMarked t s → Consistent t.messages (as_line s.roots)
    unfolding NoneMarked message_of
    end_consistent none k o =
        let good = w.good_messages k (message_in t k o.delivered) in
        let m = message_of t k in
        let there = reach_root m.sender m.sent good.sender_known o.sent_after (omega (arith, good.sent_below)) (received k o.delivered) in
        let on = reach_up m.receiver m.received (get_or s.roots m.receiver 0) good.receiver_known there o.received-before
        (le_trans (stage_below n s a m.receiver good.receiver_known) (c.within m.receiver)) in
        false≢true (sym (none m.receiver good.receiver_known) ∙ marked_now n s a (root s.roots m.receiver) on)
