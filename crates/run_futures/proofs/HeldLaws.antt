-- Held lines: the lines that matter to futures, without naming a set of processes. A line is held in a table where it is at or
-- below the counts and is the latest consistent line under the larger, place by place, of the last checkpoints and itself.
--     set_held            the line of every set is held, the recovery line too
--     held_line           a held line is the line of the processes that it puts below their counts
--     held_attained       where it is below the count, it is one of the lines of single holders, and that line is nowhere lower
--     held_before         a held line after messages were sent or received and counts grew, cut down to the counts before, was held before
--     held_above          every held line is at or above every consistent line of checkpoints
-- Assumes nothing.
use mathlib.Core.Bool.{Bool, true, false, cond}
use mathlib.Core.Path.{◌≡◌, refl, sym, ◌∙◌, subst, subst⁻¹}
use Prim.Native.Nat.{ℕ, ◌-◌, ◌≤◌, ◌<◌, max, min}
use native.Mathlib.Decide.{dec_lt, ℕ_discrete}
use native.Mathlib.Nat.{le_refl}
use native.Mathlib.Omega.{arith}
use borrow.Author.Tests.{le-ltb, lt-ltb}
use lib.Dec.{ltb}
use Rattle.consistency.proofs.CeilingLaws.{ceiling_at_lem, counts_consistent, line_of_members, set_below, set-latest}
use Rattle.consistency.proofs.LineLaws.{latest_from, latest_same, latest_unique, max_consistent, min_consistent, orphan_free}
use Rattle.consistency.specs.Ceilings.{Holders, ceiling_of, holder_line, line_of}
use Rattle.consistency.specs.Lines.{AtOrBelow, Consistent, Latest, Line, Orphan, as_line}
use Rattle.run_futures.proofs.FutureLaws.{TableGrown, beyond_undelivered}
use Rattle.tables.proofs.FormatLaws.{known_process}
use Rattle.tables.specs.Checks.{WellFormed}
use Rattle.tables.specs.Table.{Message, Table, count_of, message_count, message_of, process_count}

pub record Held (t : Table) (l : Line) : Type 0 where
  pub below : AtOrBelow l (count_of t)
  pub latest : Latest t.messages (λ p. max (count_of t p - 1) (l p)) l

-- ---- the line of every set is held
module _ (t : Table) (holds : Holders) where
  last_under_ceiling : (p : ℕ) → count_of t p - 1 ≤ as_line (ceiling_of t holds) p
  last_under_ceiling p = subst⁻¹ (λ (x : ℕ). count_of t p - 1 ≤ x) (ceiling_at_lem t holds p) (go (holds p))
    where
      go : (b : Bool) → count_of t p - 1 ≤ cond b (count_of t p - 1) (count_of t p)
      go true = le_refl (count_of t p - 1)
      go false = omega arith

  pub set_held : Held t (as_line (line_of t holds))
  set_held = record {
    below = set_below t holds;
    latest = latest_from t.messages (as_line (ceiling_of t holds)) (λ p. max (count_of t p - 1) (as_line (line_of t holds) p)) (as_line (line_of t holds))
        (set-latest t holds) (λ p. omega arith) (λ p. omega (arith, last_under_ceiling p, (set-latest t holds).under p));
  }

-- ---- a held line is the line of a set
module _ (t : Table) (l : Line) (h : Held t l) where
  abbrev lowered : Holders
  lowered p = ltb (l p) (count_of t p)

  lowered_ceiling : (p : ℕ) → max (count_of t p - 1) (l p) ≡ as_line (ceiling_of t lowered) p
  lowered_ceiling p = go (dec_lt (l p) (count_of t p)) ∙ sym (ceiling_at_lem t lowered p)
    where
      go : Dec (l p < count_of t p) → max (count_of t p - 1) (l p) ≡ cond (ltb (l p) (count_of t p)) (count_of t p - 1) (count_of t p)
      go (yes b) = rw (lt-ltb (l p) (count_of t p) b) (omega arith)
      go (no b) = rw (le-ltb (l p) (count_of t p) (omega arith)) (omega (arith, h.below p))

  pub held_line : (p : ℕ) → l p ≡ as_line (line_of t lowered) p
  held_line =
      latest_unique t.messages (as_line (ceiling_of t lowered)) l (as_line (line_of t lowered))
      (latest_same t.messages _ (as_line (ceiling_of t lowered)) l l lowered_ceiling (λ p. refl) h.latest)
      (set-latest t lowered)

  -- the line of a non-empty set is the minimum of its members' lines
  pub held_attained : WellFormed t → (p : ℕ) → l p < count_of t p
      → (k : ℕ) × (k < process_count t) × (as_line (holder_line t k) p ≡ l p) × AtOrBelow l (as_line (holder_line t k))
  unfolding holder_line
  held_attained w p b =
      let minimum = line_of_members t w lowered p (known_process t p (l p) b) (lt-ltb (l p) (count_of t p) b) in
      let one = minimum.one_of p in
      (one.0, one.1, one.3 ∙ sym (held_line p), λ q. omega (arith, held_line q, minimum.at_or_below one.0 one.1 one.2 q))

-- ---- held lines before a send, a receipt or a checkpoint
module _ (t t' : Table) (w : WellFormed t) (g : TableGrown t t') (l : Line) (h : Held t' l) where
  -- what is consistent afterwards was so before
  consistent_before : (f : Line) → Consistent t'.messages f → Consistent t.messages f
  unfolding message_of
  consistent_before f c k o = go (dec_lt k (message_count t))
    where
      go : Dec (k < message_count t) → ⊥
      go (yes b) = c k (subst⁻¹ (λ (m : Message). Orphan m f) ((g.messages_go_on k b).received-stay o.delivered) o)
      go (no b) = omega (arith, o.delivered, beyond_undelivered t k (omega arith))

  abbrev cut : Line
  cut p = min (l p) (count_of t p)

  -- the larger of the line and of one that was consistent before, under the ceiling of the cut line, is consistent afterwards
  larger_consistent : (f : Line) → AtOrBelow f (λ p. max (count_of t p - 1) (cut p)) → Consistent t.messages f
      → Consistent t'.messages (λ p. max (f p) (l p))
  unfolding message_of
  larger_consistent f under c k o = go (dec_lt k (message_count t)) (ℕ_discrete (message_of t k).received 0)
    where
      m : Message
      m = message_of t' k

      go : Dec (k < message_count t) → Dec ((message_of t k).received ≡ 0) → ⊥
      go (yes b) (yes e) =
          let late : count_of t m.receiver ≤ m.received = (g.messages_go_on k b).received_late e o.delivered in
          let line_before : l m.receiver < m.received = orphan_free m l (h.latest.consistent k) o.delivered (omega (arith, o.sent_after)) in
          omega (arith, o.delivered, o.received-before, under m.receiver)
      go (yes b) (no e) =
          max_consistent t.messages f l c (consistent_before l h.latest.consistent) k
          (subst (λ (x : Message). Orphan x (λ p. max (f p) (l p))) ((g.messages_go_on k b).received-stay (omega arith)) o)
      go (no b) _ = omega (arith, o.delivered, g.new_undelivered k (omega arith))

  pub held_before : Held t (λ p. min (l p) (count_of t p))
  held_before = record {
    below = λ p. omega arith;
    latest = record {
      under = λ p. omega arith;
      consistent = min_consistent t.messages l (count_of t) (consistent_before l h.latest.consistent) (counts_consistent t w);
      latest = λ f under c p.
          omega (arith, under p, h.latest.latest (λ q. max (f q) (l q)) (λ q. omega (arith, under q, g.counts_grow q)) (larger_consistent f under c) p);
    };
  }

-- ---- held lines after a rollback
pub held_above : (t : Table) (l f : Line) → Held t l → Consistent t.messages f → AtOrBelow f (λ p. count_of t p - 1) → AtOrBelow f l
held_above t l f h c under = h.latest.latest f (λ p. omega (arith, under p)) c
