-- The roots: the marks behind them, whether one is marked, and how they give way.
--     Over, over_all, over_known, root-there, root_within    what each loop over the processes carries, and what it asks of a process
--     Behind, behind_begins .. behind_more         the invariant of the loop that marks the states behind the roots
--     behind_ready, behind_reachable               these marks are ready for a marking, and of reachable states alone
--     root_marked, asked_all                       whether a root is marked
--     latest_found                                 the latest unmarked state of a process
--     Giving, giving_none                          the invariant of the loop over the roots
-- Assumes nothing.
use mathlib.Core.Bool.{Bool, true, false, false≢true}
use mathlib.Core.List.{List}
use mathlib.Core.Logic.{inr}
use mathlib.Core.Path.{◌≡◌, refl, sym, ap, ◌∙◌, subst⁻¹}
use Prim.Native.Nat.{ℕ, suc, ◌+◌, ◌-◌, ◌≤◌, ◌<◌}
use native.Mathlib.Decide.{dec_lt, ℕ_discrete}
use native.Mathlib.Nat.{le_refl}
use native.Mathlib.Omega.{arith}
use borrow.Author.Tests.{le-ltb, lt-ltb, ltb-true}
use lib.Dec.{ltb}
use lib.ListN.{get_or, length, replicate, set}
use Rattle.checkpoint_graph.proofs.GraphLaws.{leads_up}
use Rattle.tables.proofs.FormatLaws.{message_in}
use Rattle.checkpoint_graph.specs.Graph.{received, state}
use Rattle.marked_line.proofs.MarkRowLaws.{kept_both, kept_none, lent_kept, row_below, row_here, row_kept, row_other}
use Rattle.marked_line.specs.Marking.{Kept, LatestUnset, Lent, OnlyBehind, Ready, Unmarked}
use Rattle.marking.proofs.ReachLaws.{reach_root}
use Rattle.marking.specs.Procedure.{Reachable}
use Rattle.marks.proofs.LayoutLaws.{first_more}
use Rattle.marks.specs.Bits.{Onwards, SetFrom, bit_at, first_bit, marked_in}
use Rattle.std.specs.Option.{IfSome, MatchOption, unwrap_or}
use Rattle.std.specs.declared.option.Option.{Option}
use Rattle.std.specs.declared.option.Option.TheVariants.{None, Some}
use Rattle.tables.proofs.ListLaws.{any_below_found, any_below_none}
use Rattle.tables.specs.Checks.{WellFormed}
use Rattle.tables.specs.Lists.{any_below}
use Rattle.tables.specs.Table.{Table, count_of, message_of, process_count}

-- ---- a loop over the processes
-- It goes over n processes.
pub record Over (t : Table) (roots buffer : List ℕ) (n : ℕ) : Type 0 where
  pub lent : Lent t roots buffer
  pub n_is : n ≡ process_count t
  pub few : n ≤ 32

pub over_all : {t : Table} {roots buffer : List ℕ} {n : ℕ} → process_count t ≤ 32 → Lent t roots buffer → n ≡ process_count t
    → Over t roots buffer n
over_all few lent n_is = record { lent = lent; n_is = n_is; few = omega (arith, n_is) }

module _ {t : Table} {roots buffer : List ℕ} {n p : ℕ} (w : Over t roots buffer n) (more : p < n) where
  pub over_known : p < process_count t
  over_known = omega (arith, w.n_is)

  -- its root
  pub root-there : p < length roots
  root-there = omega (arith, w.few, w.lent.for_each)

  pub root_within : get_or roots p 0 ≤ count_of t p
  root_within = w.lent.roots-there p over_known

-- ---- marks behind the roots
-- The states behind the roots of the processes before p are marked, and no others.
pub record Behind (t : Table) (roots start buffer : List ℕ) (n p : ℕ) : Type 0 where
  pub over : Over t roots buffer n
  pub kept : Kept t start buffer
  pub done : (q y : ℕ) → q < p → y ≤ count_of t q → marked_in t buffer q y ≡ ltb (get_or roots q 0) y
  pub left : (q y : ℕ) → p ≤ q → q < n → y ≤ count_of t q → marked_in t buffer q y ≡ false

pub behind_begins : {t : Table} {roots start : List ℕ} {n : ℕ} → process_count t ≤ 32 → Lent t roots start → n ≡ process_count t
    → Unmarked t start → Behind t roots start start n 0
unfolding Unmarked
behind_begins few lent n_is none = record {
  over = over_all few lent n_is;
  kept = kept_none;
  done = λ q y l. absurd (omega arith);
  left = λ q y l l' there. none q y (omega (arith, n_is)) there;
}

module _ {t : Table} {roots start buffer : List ℕ} {n p : ℕ} (w : Behind t roots start buffer n p) where
  module _ (more : p < n) {r : ℕ} (r_is : r ≡ get_or roots p 0 + 1) where
    behind_known : p < process_count t
    behind_known = over_known w.over more

    -- nothing of the row is set
    pub behind_onwards : Onwards (first_bit t.counts p + r) (first_bit t.counts (suc p)) buffer
    unfolding marked_in count_of
    behind_onwards = record {
      next = λ x l inside set.
          let place : first_bit t.counts p + (x - first_bit t.counts p) ≡ x = omega arith in
          let none : bit_at buffer (first_bit t.counts p + (x - first_bit t.counts p)) ≡ false =
          w.left p (x - first_bit t.counts p) (le_refl p) more (omega (arith, first_more t.counts p)) in
          absurd (false≢true (sym none ∙ ap (bit_at buffer) place ∙ set));
    }

    pub behind_more : {after : List ℕ} → SetFrom (first_bit t.counts p + r) (first_bit t.counts (suc p)) buffer after
        → Behind t roots start after n (p + 1)
    behind_more {after} row = record {
      over = record { lent = lent_kept w.over.lent keeps; n_is = w.over.n_is; few = w.over.few };
      kept = kept_both w.kept keeps;
      done = λ q y l there. by_place q y l there (ℕ_discrete q p);
      left = λ q y l l' there. row_other t p behind_known r row q y (λ same. omega arith) there ∙ w.left q y (omega arith) l' there;
    }
      where
        keeps : Kept t buffer after
        keeps = row_kept t p behind_known r row

        by_number : (y : ℕ) → y ≤ count_of t p → Dec (get_or roots p 0 < y) → marked_in t after p y ≡ ltb (get_or roots p 0) y
        by_number y there (yes l) = row_here t p behind_known r row y (omega (arith, r_is)) there ∙ sym (lt-ltb (get_or roots p 0) y l)
        by_number y there (no l) =
            row_below t p behind_known r row y (omega (arith, r_is)) ∙ w.left p y (le_refl p) more there
            ∙ sym (le-ltb (get_or roots p 0) y (omega arith))

        by_place : (q y : ℕ) → q < p + 1 → y ≤ count_of t q → Dec (q ≡ p) → marked_in t after q y ≡ ltb (get_or roots q 0) y
        by_place q y l there (yes same) =
            subst⁻¹ (λ (q : ℕ). y ≤ count_of t q → marked_in t after q y ≡ ltb (get_or roots q 0) y) same
            (λ inside. by_number y inside (dec_lt (get_or roots p 0) y)) there
        by_place q y l there (no other) = row_other t p behind_known r row q y other there ∙ w.done q y (omega arith) there

-- these marks are ready for a marking, and of reachable states alone
module _ (t : Table) (wf : WellFormed t) (roots buffer : List ℕ) (only : OnlyBehind t roots buffer) where
  behind_is : (p y : ℕ) → p < process_count t → y ≤ count_of t p → marked_in t buffer p y ≡ true → get_or roots p 0 < y
  behind_is p y known there e = ltb-true (get_or roots p 0) y (sym (only.marked_just p y known there) ∙ e)

  pub behind_ready : Ready t roots buffer
  behind_ready = record {
    behind_roots = λ p y known l there. only.marked_just p y known there ∙ lt-ltb (get_or roots p 0) y l;
    behind_marked = λ p y known below e.
        only.marked_just p (suc y) known below ∙ lt-ltb (get_or roots p 0) (suc y) (omega (arith, behind_is p y known (omega arith) e));
    follows = λ k d e.
        let good = wf.good_messages k (message_in t k d) in
        let m = message_of t k in
        let above = behind_is m.sender m.sent good.sender_known (omega (arith, good.sent_below)) e in
        inr (reach_root m.sender m.sent good.sender_known (omega (arith, above)) (omega (arith, good.sent_below)) (received k d));
  }

  pub behind_reachable : (p y : ℕ) → p < process_count t → y ≤ count_of t p → marked_in t buffer p y ≡ true → Reachable t roots (state p y)
  behind_reachable p y known there e =
      record { from = p; known = known; leads = leads_up t p known (get_or roots p 0) y (behind_is p y known there e) there }

-- ---- a marked root
abbrev pub root_marked : Table → List ℕ → List ℕ → ℕ → Bool
root_marked t roots buffer p = marked_in t buffer p (get_or roots p 0)

-- the code asks for the mark of each root until one is marked
pub asked_all : (t : Table) (roots marks : List ℕ) {n : ℕ} (r : Bool) → n ≡ process_count t
    → (r ≡ true → (p : ℕ) × (p < n) × (root_marked t roots marks p ≡ true))
    → (r ≡ false → (p : ℕ) → p < n → root_marked t roots marks p ≡ false)
    → r ≡ any_below (process_count t) (root_marked t roots marks)
asked_all t roots marks true n_is some none =
    let (p, below, set) = some refl in
    sym (any_below_found (root_marked t roots marks) (process_count t) p (omega (arith, n_is)) set)
asked_all t roots marks false n_is some none =
    sym (any_below_none (root_marked t roots marks) (process_count t) (λ p known. none refl p (omega (arith, n_is))))

-- ---- the latest unmarked state of one process
-- the code looks for one above state 0, from the root down
pub latest_found : (t : Table) (marks : List ℕ) (p : ℕ) {root : ℕ} (r : Option ℕ) → marked_in t marks p 0 ≡ false
    → IfSome r (λ y. (y ≤ root) × (marked_in t marks p y ≡ false))
    → ((y : ℕ) → 0 < y → y ≤ root → MatchOption r (marked_in t marks p y ≡ true) (λ y'. y' < y → marked_in t marks p y ≡ true))
    → LatestUnset marks (first_bit t.counts p) root (unwrap_or r 0)
unfolding marked_in
latest_found t marks p None none found above = record { no-later = omega arith; not_set = none; set_behind = above }
latest_found t marks p (Some y) none found above =
    record { no-later = found.0; not_set = found.1; set_behind = λ y' l l'. above y' (omega arith) l' l }

-- ---- of all of them
abbrev Latest : Table → List ℕ → List ℕ → ℕ → ℕ → Type 0
Latest t roots marks q y = LatestUnset marks (first_bit t.counts q) (get_or roots q 0) y

pub record Giving (t : Table) (roots marks next : List ℕ) (n p : ℕ) : Type 0 where
  pub over : Over t roots marks n
  pub for_each : length next ≡ 32
  pub done : (q : ℕ) → q < p → Latest t roots marks q (get_or next q 0)

pub giving_none : {t : Table} {roots marks : List ℕ} {n : ℕ} → process_count t ≤ 32 → Lent t roots marks → n ≡ process_count t
    → Giving t roots marks (replicate 32 0) n 0
giving_none few lent n_is = record { over = over_all few lent n_is; for_each = refl; done = λ q l. absurd (omega arith) }
