-- Laws of ceilings and of the lines of sets.
--     ceiling_checked, ceiling_quiet    a ceiling is what checks 17 and 18 let through
--     under-length, under_below     the line under a ceiling
--     ceiling_length, ceiling_at_lem    the ceiling of a set, process by process
--     set_ceiling                   it is a ceiling
--     set-latest, set-length, set_below    the line of a set is the latest one under its ceiling
--     counts_consistent, counts_latest    the counts are a consistent line, and the line under themselves
--     line_of_none                  the line of the empty set is the counts
--     line_smallest                 the line of a set is the minimum of the counts and of its members' lines
--     smallest_same                 such a minimum, of the same lines
--     smallest_below, smallest_of   it is at or below each member's line, and is one of them
--     line_of_members               the line of a non-empty set is the minimum of its members' lines
-- Assumes nothing.
use mathlib.Core.Bool.{Bool, true, false, cond, ◌&&◌, and-true, and-false}
use mathlib.Core.List.{List}
use mathlib.Core.Logic.{◌⊎◌, inl, inr, ⊎_elim}
use mathlib.Core.Path.{◌≡◌, refl, sym, ap, ap₂, ◌∙◌, subst⁻¹}
use Prim.Native.Nat.{ℕ, zero, suc, ◌-◌, ◌≤◌, ◌<◌, min}
use native.Mathlib.Decide.{dec_le, dec_lt, ℕ_discrete}
use native.Mathlib.Nat.{le_refl, le_trans}
use native.Mathlib.Omega.{arith}
use borrow.Author.Tests.{eq-eqb, ne_eqb, lt-ltb, le-ltb, ltb-false}
use lib.Dec.{eqb, ltb}
use lib.ListN.{length, get_or, get_or-eq_default}
use Rattle.consistency.proofs.LineLaws.{latest-min, latest_same, latest_unique}
use Rattle.consistency.proofs.LoweringLaws.{line_is, line_latest, line_length}
use Rattle.consistency.specs.Ceilings.{Ceiling, Holders, above_counts, ceiling_of, line_of, single, smallest}
use Rattle.consistency.specs.Lines.{AtOrBelow, Consistent, Latest, Line, as_line}
use Rattle.consistency.specs.Lowering.{line_under}
use Rattle.tables.proofs.FormatLaws.{count_beyond, message_in}
use Rattle.tables.proofs.ListLaws.{any_below_none, get_or_tabulate, length-tabulate, none_below}
use Rattle.tables.specs.Checks.{WellFormed}
use Rattle.tables.specs.Lists.{tabulate}
use Rattle.tables.specs.Table.{Table, count_of, message_of, process_count}

-- without a checkpoint, a process stands at 0 either way
pub all-zero : (b : Bool) (c : ℕ) → c ≡ 0 → cond b (c - 1) c ≡ 0
all-zero true c e = omega arith
all-zero false c e = e

-- ---- ceilings
module _ (t : Table) (ceiling : List ℕ) where
  pub ceiling_checked : length ceiling ≡ process_count t → above_counts t ceiling ≡ false → Ceiling t ceiling
  unfolding above_counts
  ceiling_checked e none = record { for_each = e; within = λ p. go p (dec_lt p (process_count t)) }
    where
      go : (p : ℕ) → Dec (p < process_count t) → as_line ceiling p ≤ count_of t p
      go p (yes l) = ltb-false (count_of t p) (as_line ceiling p) (none_below _ (process_count t) none p l)
      go p (no l) =
          let beyond : length ceiling ≤ p = omega arith in
          omega (arith, get_or-eq_default ceiling 0 beyond)

  pub ceiling_quiet : Ceiling t ceiling → above_counts t ceiling ≡ false
  unfolding above_counts
  ceiling_quiet c = any_below_none _ (process_count t) (λ p _. le-ltb (count_of t p) (as_line ceiling p) (c.within p))

  module _ (c : Ceiling t ceiling) where
    pub under-length : length (line_under t.messages ceiling) ≡ process_count t
    under-length = line_length t.messages ceiling ∙ c.for_each

    -- no line goes beyond the virtual checkpoints
    pub under_below : (p : ℕ) → as_line (line_under t.messages ceiling) p ≤ count_of t p
    under_below p = le_trans ((line_latest t.messages ceiling).under p) (c.within p)

-- ---- the ceiling of a set, and its line
module _ (t : Table) (holds : Holders) where
  abbrev height : Line
  height p = cond (holds p) (count_of t p - 1) (count_of t p)

  pub ceiling_length : length (ceiling_of t holds) ≡ process_count t
  unfolding ceiling_of
  ceiling_length = length-tabulate (process_count t) height

  pub ceiling_at_lem : (p : ℕ) → as_line (ceiling_of t holds) p ≡ cond (holds p) (count_of t p - 1) (count_of t p)
  unfolding ceiling_of
  ceiling_at_lem p = go (dec_lt p (process_count t))
    where
      go : Dec (p < process_count t) → get_or (tabulate (process_count t) height) p 0 ≡ height p
      go (yes l) = get_or_tabulate (process_count t) height p 0 l
      go (no l) =
          get_or-eq_default (tabulate (process_count t) height) 0 (rw length-tabulate (omega arith))
          ∙ sym (all-zero (holds p) (count_of t p) (count_beyond t p (omega arith)))

  pub set_ceiling : Ceiling t (ceiling_of t holds)
  set_ceiling = record { for_each = ceiling_length; within = λ p. subst⁻¹ (λ (x : ℕ). x ≤ count_of t p) (ceiling_at_lem p) (go p (holds p)) }
    where
      go : (p : ℕ) (b : Bool) → cond b (count_of t p - 1) (count_of t p) ≤ count_of t p
      go p true = omega arith
      go p false = le_refl (count_of t p)

  pub set-latest : Latest t.messages (as_line (ceiling_of t holds)) (as_line (line_of t holds))
  unfolding line_of
  set-latest = line_latest t.messages (ceiling_of t holds)

  pub set-length : length (line_of t holds) ≡ process_count t
  unfolding line_of
  set-length = under-length t (ceiling_of t holds) set_ceiling

  pub set_below : (p : ℕ) → as_line (line_of t holds) p ≤ count_of t p
  unfolding line_of
  set_below = under_below t (ceiling_of t holds) set_ceiling

-- every message of a well formed table was sent before its sender's virtual checkpoint
module _ (t : Table) (w : WellFormed t) where
  pub counts_consistent : Consistent t.messages (count_of t)
  unfolding message_of
  counts_consistent k o = omega (arith, o.sent_after, (w.good_messages k (message_in t k o.delivered)).sent_below)

  pub counts_latest : Latest t.messages (count_of t) (count_of t)
  counts_latest = record { under = λ p. le_refl (count_of t p); consistent = counts_consistent; latest = λ other below _. below }

  pub line_of_none : line_of t (λ p. false) ≡ t.counts
  unfolding line_of count_of process_count
  line_of_none =
      sym (line_is t.messages (ceiling_of t (λ p. false)) t.counts (sym (ceiling_length t (λ p. false)))
      (latest_same t.messages (count_of t) (as_line (ceiling_of t (λ p. false))) (count_of t) (as_line t.counts)
      (λ p. sym (ceiling_at_lem t (λ p. false) p)) (λ p. refl) counts_latest))

  -- the minimum over the members, one after another: of the lines under the minimum of the ceilings
  smallest-latest : (holds : Holders) (n : ℕ)
      → Latest t.messages (smallest n holds (λ i. as_line (ceiling_of t (single i))) (count_of t))
      (smallest n holds (λ i. as_line (line_of t (single i))) (count_of t))
  unfolding smallest
  smallest-latest holds zero = counts_latest
  smallest-latest holds (suc n) = smaller (holds n) (smallest-latest holds n)
    where
      smaller : (b : Bool) {c l : Line} → Latest t.messages c l
          → Latest t.messages (λ p. cond b (min (as_line (ceiling_of t (single n)) p) (c p)) (c p))
          (λ p. cond b (min (as_line (line_of t (single n)) p) (l p)) (l p))
      smaller true {c} {l} a = latest-min t.messages (as_line (ceiling_of t (single n))) c (as_line (line_of t (single n))) l (set-latest t (single n)) a
      smaller false a = a

same_order : (p n : ℕ) → (p ≡ n → ⊥) → ltb p n ≡ ltb p (suc n)
same_order p n e = go (dec_lt p n)
  where
    go : Dec (p < n) → ltb p n ≡ ltb p (suc n)
    go (yes l) = lt-ltb p n l ∙ sym (lt-ltb p (suc n) (omega arith))
    go (no l) = le-ltb p n (omega arith) ∙ sym (le-ltb p (suc n) (omega arith))

-- the minimum of the ceilings of single processes, at p: count − 1 where p is a member below n, and else the count
pub single_at : (t : Table) (k p : ℕ) → as_line (ceiling_of t (single k)) p ≡ cond (eqb p k) (count_of t p - 1) (count_of t p)
unfolding single
single_at t k p = ceiling_at_lem t (single k) p

here_lower : (b : Bool) (x y c : ℕ) → x ≡ c - 1 → y ≡ c → cond b (min x y) y ≡ cond b (c - 1) c
here_lower true x y c e e' = omega arith
here_lower false x y c e e' = e'

elsewhere_same : (b : Bool) (x y c : ℕ) → x ≡ c → y ≤ c → cond b (min x y) y ≡ y
elsewhere_same true x y c e l = omega arith
elsewhere_same false x y c e l = refl

module _ (t : Table) (holds : Holders) (p : ℕ) where
  abbrev reached : ℕ → ℕ
  reached n = smallest n holds (λ i. as_line (ceiling_of t (single i))) (count_of t) p

  abbrev wanted : Bool → ℕ
  wanted b = cond b (count_of t p - 1) (count_of t p)

  wanted_below : (b : Bool) → wanted b ≤ count_of t p
  wanted_below true = omega arith
  wanted_below false = le_refl (count_of t p)

  reached_at : (n : ℕ) → reached n ≡ wanted (holds p && ltb p n)
  unfolding smallest
  reached_at zero = rw (le-ltb p 0 (omega arith), and-false (holds p))
  reached_at (suc n) = by_place (ℕ_discrete p n) (reached_at n)
    where
      by_place : Dec (p ≡ n) → reached n ≡ wanted (holds p && ltb p n) → reached (suc n) ≡ wanted (holds p && ltb p (suc n))
      by_place (yes e) ih =
          let before : reached n ≡ count_of t p = ih ∙ ap (λ (b : Bool). wanted (holds p && b)) (le-ltb p n (omega arith))
          ∙ ap wanted (and-false (holds p)) in
          let after : wanted (holds p && ltb p (suc n)) ≡ wanted (holds p) =
          ap (λ (b : Bool). wanted (holds p && b)) (lt-ltb p (suc n) (omega arith)) ∙ ap wanted (and-true (holds p))
          in
          here_lower (holds n) (as_line (ceiling_of t (single n)) p) (reached n) (count_of t p)
          (single_at t n p ∙ ap wanted (eq-eqb p n e)) before ∙ ap (λ (q : ℕ). wanted (holds q)) (sym e) ∙ sym after
      by_place (no e) ih =
          let order : ltb p n ≡ ltb p (suc n) = same_order p n e in
          elsewhere_same (holds n) (as_line (ceiling_of t (single n)) p) (reached n) (count_of t p)
          (single_at t n p ∙ ap wanted (ne_eqb p n e)) (subst⁻¹ (λ (x : ℕ). x ≤ count_of t p) ih (wanted_below (holds p && ltb p n)))
          ∙ ih ∙ ap (λ (b : Bool). wanted (holds p && b)) order

  -- the minimum over all processes is the ceiling of the set
  reached_all : reached (process_count t) ≡ as_line (ceiling_of t holds) p
  reached_all = reached_at (process_count t) ∙ go (dec_lt p (process_count t)) ∙ sym (ceiling_at_lem t holds p)
    where
      go : Dec (p < process_count t) → wanted (holds p && ltb p (process_count t)) ≡ wanted (holds p)
      go (yes l) = ap (λ (b : Bool). wanted (holds p && b)) (lt-ltb p (process_count t) l) ∙ ap wanted (and-true (holds p))
      go (no l) = all-zero (holds p && ltb p (process_count t)) (count_of t p) beyond ∙ sym (all-zero (holds p) (count_of t p) beyond)
        where
          beyond : count_of t p ≡ 0
          beyond = count_beyond t p (omega arith)

module _ (t : Table) (w : WellFormed t) (holds : Holders) where
  pub line_smallest : (p : ℕ) → as_line (line_of t holds) p ≡ smallest (process_count t) holds (λ i. as_line (line_of t (single i))) (count_of t) p
  line_smallest p =
      latest_unique t.messages (as_line (ceiling_of t holds)) (as_line (line_of t holds)) _ (set-latest t holds)
      (latest_same t.messages _ (as_line (ceiling_of t holds)) _ _ (reached_all t holds) (λ q. refl) (smallest-latest t w holds (process_count t))) p

-- ---- what a minimum over members is
pub smallest_same : (holds : Holders) (lines lines' : ℕ → Line) (base base' : Line) (p n : ℕ) → ((i : ℕ) → i < n → lines i p ≡ lines' i p)
    → base p ≡ base' p → smallest n holds lines base p ≡ smallest n holds lines' base' p
unfolding smallest
smallest_same holds lines lines' base base' p zero each e = e
smallest_same holds lines lines' base base' p (suc n) each e =
    ap₂ (λ (x y : ℕ). cond (holds n) (min x y) y) (each n (omega arith))
    (smallest_same holds lines lines' base base' p n (λ i l. each i (omega arith)) e)

module _ (holds : Holders) (lines : ℕ → Line) (base : Line) where
  pub smallest_below : (n i : ℕ) → i < n → holds i ≡ true → AtOrBelow (smallest n holds lines base) (lines i)
  unfolding smallest
  smallest_below zero i l h p = absurd (omega arith)
  smallest_below (suc n) i l h p = by_place (ℕ_discrete i n) (λ k. smallest_below n i k h p)
    where
      under : (b : Bool) (x y z : ℕ) → y ≤ z → cond b (min x y) y ≤ z
      under true x y z k = omega arith
      under false x y z k = k

      by_place : Dec (i ≡ n) → (i < n → smallest n holds lines base p ≤ lines i p)
          → cond (holds n) (min (lines n p) (smallest n holds lines base p)) (smallest n holds lines base p) ≤ lines i p
      by_place (yes e) before = rw (sym e, h) (omega arith)
      by_place (no e) before = under (holds n) (lines n p) (smallest n holds lines base p) (lines i p) (before (omega arith))

  -- it is the base's number, or that of a member's line
  abbrev One : ℕ → ℕ → Type 0
  One n p = (i : ℕ) × (i < n) × (holds i ≡ true) × (lines i p ≡ smallest n holds lines base p)

  pub smallest_of : (n p : ℕ) → (smallest n holds lines base p ≡ base p) ⊎ One n p
  unfolding smallest
  smallest_of zero p = inl refl
  smallest_of (suc n) p = go (holds n) refl (dec_le (lines n p) (smallest n holds lines base p)) (smallest_of n p)
    where
      go : (b : Bool) → holds n ≡ b → Dec (lines n p ≤ smallest n holds lines base p)
          → (smallest n holds lines base p ≡ base p) ⊎ ((i : ℕ) × (i < n) × (holds i ≡ true) × (lines i p ≡ smallest n holds lines base p))
          → (cond b (min (lines n p) (smallest n holds lines base p)) (smallest n holds lines base p) ≡ base p)
          ⊎ ((i : ℕ) × (i < suc n) × (holds i ≡ true)
          × (lines i p ≡ cond b (min (lines n p) (smallest n holds lines base p)) (smallest n holds lines base p)))
      go true h (yes l) before = inr (n, omega arith, h, omega arith)
      go true h (no l) (inl e) = inl (omega arith)
      go true h (no l) (inr o) = inr (o.0, omega (arith, o.1), o.2, omega (arith, o.3))
      go false h d (inl e) = inl e
      go false h d (inr o) = inr (o.0, omega (arith, o.1), o.2, o.3)

-- The minimum, place by place, of the lines of a set's members below n.
pub record MinimumOf (n : ℕ) (holds : Holders) (lines : ℕ → Line) (l : Line) : Type 0 where
  pub at_or_below : (i : ℕ) → i < n → holds i ≡ true → AtOrBelow l (lines i)
  pub one_of : (p : ℕ) → (i : ℕ) × (i < n) × (holds i ≡ true) × (lines i p ≡ l p)

module _ (t : Table) (w : WellFormed t) (holds : Holders) where
  abbrev singles : ℕ → Line
  singles i = as_line (line_of t (single i))

  pub line_of_members : (k : ℕ) → k < process_count t → holds k ≡ true → MinimumOf (process_count t) holds singles (as_line (line_of t holds))
  line_of_members k l h = record {
    at_or_below = below;
    one_of = λ p. ⊎_elim (λ (e : _ ≡ count_of t p). (k, l, h, omega (arith, e, line_smallest t w holds p, set_below t (single k) p, below k l h p)))
        (λ o. (o.0, o.1, o.2, o.3 ∙ sym (line_smallest t w holds p))) (smallest_of holds singles (count_of t) (process_count t) p);
  }
    where
      below : (i : ℕ) → i < process_count t → holds i ≡ true → AtOrBelow (as_line (line_of t holds)) (singles i)
      below i b e p =
          subst⁻¹ (λ (x : ℕ). x ≤ singles i p) (line_smallest t w holds p) (smallest_below holds singles (count_of t) (process_count t) i b e p)
