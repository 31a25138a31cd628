-- The ceiling of named checkpoints, process by process.
--     named_at            what stands at a process: a number that is named for it; or what was there, where it is not named
--     ceiling_named       at a named process it is the named number
--     ceiling_else        at any process it is one that is named, or the count
--     named_ceiling_lem       it is a ceiling of the run
--     names_checked       names are what checks 20, 21 and 22 let through
-- Assumes nothing.
use mathlib.Core.Bool.{false}
use mathlib.Core.List.{List}
use mathlib.Core.Logic.{◌⊎◌, inl, inr, ⊎_elim}
use mathlib.Core.Path.{◌≡◌, refl, sym, ap, ◌∙◌}
use Prim.Native.Nat.{ℕ, zero, suc, ◌<◌}
use native.Mathlib.Decide.{dec_lt, ℕ_discrete}
use native.Mathlib.Nat.{le_refl}
use native.Mathlib.Omega.{arith}
use borrow.Author.Tests.{leb-false}
use lib.ListN.{length, get_or, set, length-set}
use lib.Seq.{get_or-set_same, get_or-set_other}
use Rattle.consistency.specs.Ceilings.{Ceiling}
use Rattle.consistency.specs.Lines.{as_line}
use Rattle.tables.proofs.ListLaws.{none_below}
use Rattle.tables.specs.Table.{Table, count_of, process_count}
use Rattle.zigzag.specs.Names.{Named, Names, not_below_counts}
use Rattle.zigzag.specs.Together.{named_ceiling, put_named}

module _ (processes states : List ℕ) where
  pub put_length : (n : ℕ) (l : List ℕ) → length (put_named n processes states l) ≡ length l
  unfolding put_named
  put_length zero l = refl
  put_length (suc n) l = length-set (put_named n processes states l) (get_or processes n 0) (get_or states n 0) ∙ put_length n l

  -- the number at p is one of the first n named ones, with its process
  record OneOf (n p number : ℕ) : Type 0 where
    place : ℕ
    before : place < n
    process_is : get_or processes place 0 ≡ p
    number_is : number ≡ get_or states place 0

  -- p is none of the first n processes, and its number is as it was
  record NoneOf (n p number old : ℕ) : Type 0 where
    none : (k : ℕ) → k < n → get_or processes k 0 ≡ p → ⊥
    number_is : number ≡ old

  named_at : (n : ℕ) (l : List ℕ) → ((k : ℕ) → k < n → get_or processes k 0 < length l) → (p : ℕ)
      → OneOf n p (get_or (put_named n processes states l) p 0) ⊎ NoneOf n p (get_or (put_named n processes states l) p 0) (get_or l p 0)
  unfolding put_named
  named_at zero l inside p = inr (record { none = λ k b _. omega arith; number_is = refl })
  named_at (suc n) l inside p = by_place (ℕ_discrete p (get_or processes n 0)) (named_at n l (λ k b. inside k (omega arith)) p)
    where
      before : List ℕ
      before = put_named n processes states l

      after : ℕ
      after = get_or (set before (get_or processes n 0) (get_or states n 0)) p 0

      unmoved : (p ≡ get_or processes n 0 → ⊥) → after ≡ get_or before p 0
      unmoved other = get_or-set_other before (get_or processes n 0) p (get_or states n 0) 0 other

      by_place : Dec (p ≡ get_or processes n 0) → OneOf n p (get_or before p 0) ⊎ NoneOf n p (get_or before p 0) (get_or l p 0)
          → OneOf (suc n) p after ⊎ NoneOf (suc n) p after (get_or l p 0)
      by_place (yes e) _ = inl (record {
        place = n;
        before = le_refl (suc n);
        process_is = sym e;
        number_is =
            ap (λ (q : ℕ). get_or (set before (get_or processes n 0) (get_or states n 0)) q 0) e
            ∙ get_or-set_same before (get_or processes n 0) (get_or states n 0) 0 (omega (arith, inside n (le_refl (suc n)), put_length n l));
      })
      by_place (no other) (inl o) =
          inl (record { place = o.place; before = omega (arith, o.before); process_is = o.process_is; number_is = unmoved other ∙ o.number_is })
      by_place (no other) (inr o) = inr (record { none = λ k b. by_last k b (ℕ_discrete k n); number_is = unmoved other ∙ o.number_is })
        where
          by_last : (k : ℕ) → k < suc n → Dec (k ≡ n) → get_or processes k 0 ≡ p → ⊥
          by_last k b (yes e) same = other (sym same ∙ ap (λ (x : ℕ). get_or processes x 0) e)
          by_last k b (no earlier) same = o.none k (omega arith) same

module _ {t : Table} {processes states : List ℕ} (names : Names t processes states) where
  -- two places with one process are one place
  same_place : (k l : ℕ) → k < length processes → l < length processes → get_or processes k 0 ≡ get_or processes l 0 → k ≡ l
  same_place k l b b' e = go (ℕ_discrete k l) (dec_lt k l)
    where
      go : Dec (k ≡ l) → Dec (k < l) → k ≡ l
      go (yes same) _ = same
      go (no differs) (yes less) = absurd (names.different k l less b' e)
      go (no differs) (no more) = absurd (names.different l k (omega arith) b (sym e))

  abbrev ceiling : ℕ → ℕ
  ceiling p = as_line (named_ceiling t processes states) p

  at_process : (p : ℕ) → OneOf processes states (length processes) p (ceiling p) ⊎ NoneOf processes states (length processes) p (ceiling p) (count_of t p)
  unfolding named_ceiling count_of process_count
  at_process p = named_at processes states (length processes) t.counts names.known p

  pub ceiling_named : {p c : ℕ} → Named processes states p c → ceiling p ≡ c
  ceiling_named {p} {c} named =
      ⊎_elim
      (λ (o : OneOf processes states (length processes) p (ceiling p)).
      o.number_is
      ∙ ap (λ (k : ℕ). get_or states k 0) (same_place o.place named.place o.before named.there (o.process_is ∙ sym named.process_is))
      ∙ named.state_is)
      (λ (o : NoneOf processes states (length processes) p (ceiling p) (count_of t p)). absurd (o.none named.place named.there named.process_is))
      (at_process p)

  -- a process that is not named stands at its count, and one that is named at a checkpoint
  pub ceiling_else : (p : ℕ) → Named processes states p (ceiling p) ⊎ (ceiling p ≡ count_of t p)
  ceiling_else p =
      ⊎_elim
      (λ (o : OneOf processes states (length processes) p (ceiling p)).
      inl (record { place = o.place; there = o.before; process_is = o.process_is; state_is = sym o.number_is }))
      (λ (o : NoneOf processes states (length processes) p (ceiling p) (count_of t p)). inr o.number_is)
      (at_process p)

  pub named_saved : {p c : ℕ} → Named processes states p c → c < count_of t p
  named_saved named =
      omega (arith, names.saved named.place named.there, named.state_is, ap (count_of t) named.process_is)

  pub named_ceiling_lem : Ceiling t (named_ceiling t processes states)
  unfolding named_ceiling process_count
  named_ceiling_lem = record {
    for_each = put_length processes states (length processes) t.counts;
    within = λ p.
        ⊎_elim (λ (named : Named processes states p (ceiling p)). omega (arith, named_saved named)) (λ (e : ceiling p ≡ count_of t p). omega (arith, e))
        (ceiling_else p);
  }

-- ---- names are what checks 20, 21 and 22 let through
pub names_checked : (t : Table) (processes states : List ℕ) → length states ≡ length processes
    → ((k : ℕ) → k < length processes → get_or processes k 0 < process_count t)
    → ((k l : ℕ) → k < l → l < length processes → get_or processes k 0 < get_or processes l 0) → not_below_counts t processes states ≡ false
    → Names t processes states
unfolding not_below_counts
names_checked t processes states for_each known rises below = record {
  for_each = for_each;
  known = known;
  different = λ k l less b same. omega (arith, rises k l less b);
  saved = λ k b. leb-false (count_of t (get_or processes k 0)) (get_or states k 0) (none_below _ (length processes) below k b);
}
