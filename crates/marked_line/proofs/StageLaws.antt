-- What the code holds is a stage of the procedure: its roots are the first N of the array, its marks those that the buffer holds.
--     cleared_unmarked                 a cleared buffer has no marks
--     given_few, starts_lent, starts_unmarked, starts_ready, running_starts    the start of the procedure
--     gave_lent, gave_ready            what the roots that gave way are lent, and that a marking may begin with the marks
--     running_more, running_falls, running_ends    a round, with which the roots fall; the end
--     end_cleared                      the marks are cleared again, and no byte beyond them was changed
-- Assumes nothing.
use mathlib.Core.Bool.{true, false, false≢true}
use mathlib.Core.List.{List}
use mathlib.Core.Logic.{inl, inr, ⊎_elim}
use mathlib.Core.Path.{◌≡◌, refl, sym, ap, ◌∙◌, subst, subst⁻¹}
use Prim.Native.Nat.{ℕ, suc, ◌+◌, ◌≤◌, ◌<◌}
use native.Mathlib.Decide.{dec_le, dec_lt}
use native.Mathlib.Omega.{arith}
use lib.ListN.{get_or, length, take}
use lib.Seq.{get_or-take, length-take-le}
use Rattle.checkpoint_graph.specs.Graph.{Leads, State, state}
use Rattle.consistency.specs.Ceilings.{Ceiling}
use Rattle.marked_line.proofs.MarkPassLaws.{marks_are, marks_bit}
use Rattle.marked_line.proofs.RootLaws.{behind_reachable, behind_ready, root_marked}
use Rattle.marked_line.proofs.MarkRowLaws.{kept_both, lent_kept}
use Rattle.marked_line.specs.Marking.{Closed, GaveWay, Given, Kept, Lent, OnlyBehind, Reached, Ready}
use Rattle.marked_line.specs.Marking.{RoundMade, Running, RoundReady, Unmarked, ZeroUnmarked, marks_in, stage_of}
use Rattle.marking.proofs.RoundLaws.{round_falls, zero_unmarked}
use Rattle.marking.specs.Procedure.{After, EndsWith, LatestUnmarked, Marks, MarksReachable, NoneMarked, Reachable, Round, Starts, root}
use Rattle.marks.proofs.BitLaws.{cleared_again, cleared_beyond, cleared_bit, cleared-length}
use Rattle.marks.proofs.LayoutLaws.{state_inside}
use Rattle.marks.specs.Bits.{bit_at, first_bit, marked_in}
use Rattle.marks.specs.Room.{cleared, marks_size}
use Rattle.tables.proofs.ArrayLaws.{array_at, array_front, array_length}
use Rattle.tables.proofs.ListLaws.{found_below, none_below}
use Rattle.tables.specs.Arrays.{array_of}
use Rattle.tables.specs.Checks.{WellFormed}
use Rattle.tables.specs.Lists.{any_below, sum}
use Rattle.tables.specs.Table.{Table, count_of, process_count}

pub cleared_unmarked : (t : Table) (buffer : List ℕ) → marks_size t ≤ length buffer → Unmarked t (cleared (marks_size t) buffer)
unfolding Unmarked marked_in
cleared_unmarked t buffer fits p y known there =
    cleared_bit (marks_size t) buffer fits (first_bit t.counts p + y) (state_inside t p known y there)

-- ---- a stage
-- a root of the stage
root_of : (t : Table) (roots : List ℕ) (p : ℕ) → p < process_count t → get_or (take (process_count t) roots) p 0 ≡ get_or roots p 0
root_of t roots p known = get_or-take (process_count t) roots p 0 known

-- what is reachable from them
module _ (t : Table) (roots : List ℕ) where
  to_first : {s : State} → Reachable t roots s → Reachable t (take (process_count t) roots) s
  to_first {s} r = record {
    from = r.from;
    known = r.known;
    leads = subst⁻¹ (λ (y : ℕ). Leads t (state r.from y) s) (root_of t roots r.from r.known) r.leads;
  }

  to_array : {s : State} → Reachable t (take (process_count t) roots) s → Reachable t roots s
  to_array {s} r = record {
    from = r.from;
    known = r.known;
    leads = subst (λ (y : ℕ). Leads t (state r.from y) s) (root_of t roots r.from r.known) r.leads;
  }

  marking-first : {before after : Marks} → MarksReachable t roots before after → MarksReachable t (take (process_count t) roots) before after
  marking-first m = record {
    stay = m.stay;
    reached = λ s r. m.reached s (to_array r);
    no_others = λ s e. ⊎_elim inl (λ r. inr (to_first r)) (m.no_others s e);
  }

-- in none of them is a state 0 marked
stage_zero : (t : Table) → WellFormed t → (ceilings : List ℕ) (rounds : ℕ) (roots buffer : List ℕ) → Ceiling t ceilings
    → After t ceilings rounds (stage_of t roots buffer) → ZeroUnmarked t buffer
unfolding ZeroUnmarked stage_of
stage_zero t wf ceilings rounds roots buffer ceiling after p known =
    sym (marks_bit t buffer p 0 known (omega arith)) ∙ zero_unmarked t ceilings ceiling wf rounds (stage_of t roots buffer) after p

-- ---- the start
kept-cleared : (t : Table) (buffer : List ℕ) → marks_size t ≤ length buffer → Kept t buffer (cleared (marks_size t) buffer)
kept-cleared t buffer fits = record { same_length = cleared-length (marks_size t) buffer fits; beyond = cleared_beyond (marks_size t) buffer fits }

module _ {t : Table} (few : process_count t ≤ 32) {ceilings start : List ℕ} (g : Given t ceilings start) where
  pub given_few : length ceilings ≤ 32
  given_few = omega (arith, few, g.ceiling.for_each)

  module _ {roots : List ℕ} (roots_are : roots ≡ array_of ceilings) where
    at_ceiling : (p : ℕ) → get_or roots p 0 ≡ get_or ceilings p 0
    at_ceiling p = ap (λ (l : List ℕ). get_or l p 0) roots_are ∙ array_at ceilings given_few p

    -- the marks are cleared
    module _ {size : ℕ} {blank : List ℕ} (size_is : size ≡ marks_size t) (blank-is : blank ≡ cleared size start) where
      cleared_is : blank ≡ cleared (marks_size t) start
      cleared_is = blank-is ∙ ap (λ (n : ℕ). cleared n start) size_is

      kept_blank : Kept t start blank
      kept_blank = subst⁻¹ (Kept t start) cleared_is (kept-cleared t start g.room)

      pub starts_lent : Lent t roots blank
      starts_lent = record {
        for_each = ap length roots_are ∙ array_length ceilings;
        roots-there = λ p known. omega (arith, at_ceiling p, g.ceiling.within p);
        room = omega (arith, g.room, kept_blank.same_length);
      }

      pub starts_unmarked : Unmarked t blank
      starts_unmarked = subst⁻¹ (Unmarked t) cleared_is (cleared_unmarked t start g.room)

      -- and then the states behind the ceilings
      module _ (wf : WellFormed t) {behind : List ℕ} (kept : Kept t blank behind) (only : OnlyBehind t roots behind) where
        pub starts_ready : Lent t roots behind × Ready t roots behind
        starts_ready = (lent_kept starts_lent kept, behind_ready t wf roots behind only)

        pub running_starts : {marked : List ℕ} → Reached t roots behind marked → Running t ceilings roots start marked
        unfolding After stage_of
        running_starts {marked} reached = record {
          ceiling = g.ceiling;
          stands = record {
            lent = lent_kept starts_ready.0 reached.kept;
            ready = reached.ready;
            closed = reached.closed;
            zero_unmarked = stage_zero t wf ceilings 0 roots marked g.ceiling starting;
          };
          kept = kept_both (kept_both kept_blank kept) reached.kept;
          rounds = 0;
          after = starting;
        }
          where
            all : MarksReachable t (take (process_count t) roots) (marks_in t behind) (marks_in t marked)
            all = marking-first t roots reached.marking

            by_mark : (s : State) → marks_in t behind s ≡ true → Reachable t (take (process_count t) roots) s
            by_mark s e =
                let is = marks_are t behind s e in
                to_first t roots (behind_reachable t wf roots behind only s.process s.number is.known is.there is.set)

            from_none : MarksReachable t (take (process_count t) roots) (λ _. false) (marks_in t marked)
            from_none = record {
              stay = λ s e. absurd (false≢true e);
              reached = all.reached;
              no_others = λ s e. inr (⊎_elim (by_mark s) (λ r. r) (all.no_others s e));
            }

            starting : Starts t ceilings (stage_of t roots marked)
            starting = record {
              at_ceilings = array_front ceilings roots (process_count t) roots_are (sym g.ceiling.for_each) given_few;
              marking = from_none;
            }

-- ---- roots that gave way
module _ {t : Table} {roots buffer next : List ℕ} (w : RoundReady t roots buffer) (gave : GaveWay t roots buffer next) where
  -- an unmarked root stays
  stays_there : (p : ℕ) → p < process_count t → root_marked t roots buffer p ≡ false → get_or next p 0 ≡ get_or roots p 0
  unfolding marked_in
  stays_there p known e = go (dec_lt (get_or next p 0) (get_or roots p 0))
    where
      go : Dec (get_or next p 0 < get_or roots p 0) → get_or next p 0 ≡ get_or roots p 0
      go (yes l) = absurd (false≢true (sym e ∙ (gave.each p known).set_behind (get_or roots p 0) l (omega arith)))
      go (no l) = omega (arith, (gave.each p known).no-later)

  next_there : (p : ℕ) → p < process_count t → get_or next p 0 ≤ count_of t p
  next_there p known = omega (arith, (gave.each p known).no-later, w.lent.roots-there p known)

  -- the states behind the new roots are marked
  behind_next : (p y : ℕ) → p < process_count t → get_or next p 0 < y → y ≤ count_of t p → marked_in t buffer p y ≡ true
  unfolding marked_in
  behind_next p y known l there = go (dec_le y (get_or roots p 0))
    where
      go : Dec (y ≤ get_or roots p 0) → bit_at buffer (first_bit t.counts p + y) ≡ true
      go (yes l') = (gave.each p known).set_behind y l l'
      go (no l') = w.ready.behind_roots p y known (omega arith) there

  pub gave_lent : Lent t next buffer
  gave_lent = record { for_each = gave.for_each; roots-there = next_there; room = w.lent.room }

  pub gave_ready : Ready t next buffer
  unfolding Closed
  gave_ready = record { behind_roots = behind_next; behind_marked = w.ready.behind_marked; follows = λ k d e. inl (w.closed k d e) }

  latest : (p : ℕ) → p < process_count t → LatestUnmarked t (marks_in t buffer) p (get_or next p 0)
  unfolding marked_in
  latest p known = record {
    there = next_there p known;
    unmarked = marks_bit t buffer p (get_or next p 0) known (next_there p known) ∙ (gave.each p known).not_set;
    later = λ y l inside. marks_bit t buffer p y known inside ∙ behind_next p y known l inside;
  }

-- ---- the rounds
module _ {t : Table} {ceilings roots start buffer : List ℕ} (w : Running t ceilings roots start buffer) where
  abbrev lent : Lent t roots buffer
  lent = w.stands.lent

  -- a root's mark in the stage is its bit
  root_mark : (p : ℕ) → p < process_count t → marks_in t buffer (root (take (process_count t) roots) p) ≡ root_marked t roots buffer p
  root_mark p known =
      ap (λ (y : ℕ). marks_in t buffer (state p y)) (root_of t roots p known)
      ∙ marks_bit t buffer p (get_or roots p 0) known (lent.roots-there p known)

  pub running_ends : false ≡ any_below (process_count t) (root_marked t roots buffer) → EndsWith t ceilings (take (process_count t) roots)
  unfolding NoneMarked stage_of
  running_ends none = record {
    rounds = w.rounds;
    last = stage_of t roots buffer;
    after = w.after;
    none_marked = λ p known. root_mark p known ∙ none_below (root_marked t roots buffer) (process_count t) (sym none) p known;
    last_roots = refl;
  }

  module _ (few_processes : process_count t ≤ 32) (marked : true ≡ any_below (process_count t) (root_marked t roots buffer)) {next after : List ℕ}
      (made : RoundMade t roots buffer next after) where
    found : (p : ℕ) × (p < process_count t) × (root_marked t roots buffer p ≡ true)
    found = found_below (root_marked t roots buffer) (process_count t) (sym marked)

    first-length : (l : List ℕ) → length l ≡ 32 → length (take (process_count t) l) ≡ process_count t
    first-length l e = length-take-le (process_count t) l (omega (arith, few_processes))

    round : Round t (stage_of t roots buffer) (stage_of t next after)
    unfolding stage_of
    round = record {
      some_marked = (found.0, found.1, root_mark found.0 found.1 ∙ found.2);
      for_each = first-length next made.gave.for_each ∙ sym (first-length roots lent.for_each);
      gives_way = λ p known e.
          subst⁻¹ (LatestUnmarked t (marks_in t buffer) p) (root_of t next p known) (latest w.stands made.gave p known);
      stays = λ p known e.
          root_of t next p known ∙ stays_there w.stands made.gave p known (sym (root_mark p known) ∙ e) ∙ sym (root_of t roots p known);
      marking = marking-first t next made.reached.marking;
    }

    next_after : After t ceilings (suc w.rounds) (stage_of t next after)
    unfolding After
    next_after = (stage_of t roots buffer, w.after, round)

    pub running_falls : sum (take (process_count t) next) < sum (take (process_count t) roots)
    unfolding stage_of
    running_falls = round_falls t ceilings w.ceiling w.rounds (stage_of t roots buffer) (stage_of t next after) w.after round

    pub running_more : WellFormed t → Running t ceilings next start after
    running_more wf = record {
      ceiling = w.ceiling;
      stands = record {
        lent = lent_kept (gave_lent w.stands made.gave) made.reached.kept;
        ready = made.reached.ready;
        closed = made.reached.closed;
        zero_unmarked = stage_zero t wf ceilings (suc w.rounds) next after w.ceiling next_after;
      };
      kept = kept_both w.kept made.reached.kept;
      rounds = suc w.rounds;
      after = next_after;
    }

-- ---- the end: the marks are cleared again, and no byte beyond them was changed
pub end_cleared : {t : Table} {start buffer after : List ℕ} {size : ℕ} → Kept t start buffer → size ≡ marks_size t
    → after ≡ cleared size buffer
    → after ≡ cleared (marks_size t) start
end_cleared {t} {start} {buffer} k size_is after_is =
    after_is ∙ ap (λ (n : ℕ). cleared n buffer) size_is ∙ cleared_again (marks_size t) start buffer k.same_length k.beyond
