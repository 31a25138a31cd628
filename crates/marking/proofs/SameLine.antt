-- The procedure can be carried out, ends after no more rounds than the sum of the ceilings, and its last roots are the latest consistent
-- line under them. The argument: with L any consistent line under the ceilings, the roots stay at or above L and the marks above it
-- (`stage_above`); where no root is marked they are themselves consistent (`end_consistent`), and they never rise; so they are the latest.
--     end_latest, end_is    of the stage at which the procedure ends
--     same_line             the whole claim
-- Assumes nothing.
use mathlib.Core.Bool.{Bool, true, false}
use mathlib.Core.List.{List}
use mathlib.Core.Logic.{◌⊎◌, inl, inr, ⊎_elim}
use mathlib.Core.Path.{◌≡◌, refl, sym, ◌∙◌, subst}
use Prim.Native.Nat.{ℕ, zero, suc, ◌+◌, ◌≤◌, ◌<◌}
use native.Mathlib.Decide.{dec_lt}
use native.Mathlib.Omega.{arith}
use lib.ListN.{length, get_or-eq_default}
use Rattle.consistency.proofs.LoweringLaws.{line_is}
use Rattle.consistency.specs.Ceilings.{Ceiling}
use Rattle.consistency.specs.Lines.{Latest, as_line}
use Rattle.consistency.specs.Lowering.{line_under}
use Rattle.marking.proofs.ReachLaws.{marking_made}
use Rattle.marking.proofs.RoundLaws.{end_consistent, round_falls, round_made, rounds-stay, stage_above, stage_below, stage_for_each, stage_sum}
use Rattle.marking.specs.Procedure.{After, EndsWith, NoneMarked, Round, Stage, Starts, root}
use Rattle.marking.specs.SameLine.{SameLine}
use Rattle.tables.proofs.ListLaws.{found_below, none_below}
use Rattle.tables.specs.Checks.{WellFormed}
use Rattle.tables.specs.Lists.{any_below, sum}
use Rattle.tables.specs.Table.{Table, process_count}

module _ (t : Table) (w : WellFormed t) (ceilings : List ℕ) (c : Ceiling t ceilings) where
  module _ (n : ℕ) (s : Stage) (a : After t ceilings n s) where
    -- at each process, whether it is one of the run or not
    at_each : (P : ℕ → Type 0) → ((p : ℕ) → p < process_count t → P p) → ((p : ℕ) → process_count t ≤ p → P p) → (p : ℕ) → P p
    at_each P known beyond p = go (dec_lt p (process_count t))
      where
        go : Dec (p < process_count t) → P p
        go (yes l) = known p l
        go (no l) = beyond p (omega arith)

    nothing_beyond : (p : ℕ) → process_count t ≤ p → as_line s.roots p ≡ 0
    nothing_beyond p l = get_or-eq_default s.roots 0 (omega (arith, stage_for_each t ceilings c n s a))

    pub end_latest : NoneMarked t s → Latest t.messages (as_line ceilings) (as_line s.roots)
    end_latest none = record {
      under = at_each (λ p. as_line s.roots p ≤ as_line ceilings p) (stage_below t ceilings c n s a) (λ p l. omega (arith, nothing_beyond p l));
      consistent = end_consistent t ceilings c w n s a none;
      latest = λ other under consistent.
          at_each (λ p. other p ≤ as_line s.roots p) (stage_above t ceilings c other consistent under n s a).roots
          (λ p l.
          let none-there : length ceilings ≤ p = omega (arith, c.for_each) in
          omega (arith, under p, get_or-eq_default ceilings 0 none-there));
    }

    pub end_is : NoneMarked t s → s.roots ≡ line_under t.messages ceilings
    end_is none = line_is t.messages ceilings s.roots (stage_for_each t ceilings c n s a ∙ sym c.for_each) (end_latest none)

    pub stage_goes_on : NoneMarked t s ⊎ ((s' : Stage) × Round t s s')
    unfolding NoneMarked
    stage_goes_on = go (any_below (process_count t) (λ p. s.marks (root s.roots p))) refl
      where
        go : (b : Bool) → any_below (process_count t) (λ p. s.marks (root s.roots p)) ≡ b
            → ((p : ℕ) → p < process_count t → s.marks (root s.roots p) ≡ false) ⊎ ((s' : Stage) × Round t s s')
        go true e =
            let found = found_below (λ p. s.marks (root s.roots p)) (process_count t) e in
            inr (round_made t ceilings c w n s a found)
        go false e = inl (none_below (λ p. s.marks (root s.roots p)) (process_count t) e)

  start : (s : Stage) × Starts t ceilings s
  start =
      let made = marking_made t w ceilings (λ _. false) in
      (record { roots = ceilings; marks = made.0 }, record { at_ceilings = refl; marking = made.1 })

  -- as many rounds as the sum of the ceilings are enough
  abbrev Ends : Type 0
  Ends = (roots : List ℕ) × EndsWith t ceilings roots

  ended : (n : ℕ) (s : Stage) → After t ceilings n s → NoneMarked t s → Ends
  ended n s a none = (s.roots, record { rounds = n; last = s; after = a; none_marked = none; last_roots = refl })

  carry_on : (fuel n : ℕ) (s : Stage) → After t ceilings n s → sum ceilings ≤ n + fuel → Ends
  unfolding After
  carry_on zero n s a l =
      ⊎_elim (ended n s a) (λ next. absurd (omega (arith, stage_sum t ceilings c n s a, round_falls t ceilings c n s next.0 a next.1)))
      (stage_goes_on n s a)
  carry_on (suc fuel) n s a l =
      ⊎_elim (ended n s a) (λ next. carry_on fuel (suc n) next.0 (s, a, next.1) (omega arith)) (stage_goes_on n s a)

  pub same_line : SameLine t ceilings
  unfolding After
  same_line = record {
    starts = start;
    goes_on = stage_goes_on;
    finitely = λ n s a. omega (arith, stage_sum t ceilings c n s a);
    marks_stay = rounds-stay t;
    ends = carry_on (sum ceilings) 0 start.0 start.1 (omega arith);
    latest = λ roots e. subst (λ (l : List ℕ). Latest t.messages (as_line ceilings) (as_line l)) e.last_roots
        (end_latest e.rounds e.last e.after e.none_marked);
    same = λ roots e. sym e.last_roots ∙ end_is e.rounds e.last e.after e.none_marked;
  }
