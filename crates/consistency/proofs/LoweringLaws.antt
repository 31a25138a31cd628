-- The computed line is the latest one. Lowering by an orphan stays at or above every consistent line, and brings the sum down;
-- so passes come to rest at a consistent line that no other one under the ceiling exceeds.
--     orphan_test, orphan_is        the test of an orphan
--     sum_falls, sum-zero           the sum of a line
--     lower-under .. lower-falls    one message
--     pass-under .. pass_progress   one pass
--     line_latest                   the computed line is the latest one under its ceiling
--     line_length                   it has a number for each of the ceiling's
--     line_monotone                 a lower ceiling gives no later line
--     line_is                       a line that is the latest one under a ceiling is the computed one
--     line_from, line_put_back      any start between the line and its ceiling ends at the same line
--     line_consistent               a consistent line is the line under itself
--     line_carries                  what the ceiling has, and each orphan's receiver put back leaves, the line has
-- Assumes nothing.
use mathlib.Core.Bool.{Bool, true, false, ◌&&◌, false≢true}
use mathlib.Core.List.{List, [], ◌∷◌}
use mathlib.Core.Logic.{◌⊎◌, inl, inr, ⊎_elim}
use mathlib.Core.Path.{◌≡◌, refl, sym, ap, ◌∙◌, subst, subst⁻¹}
use Prim.Native.Nat.{ℕ, zero, suc, ◌-◌, ◌≤◌, ◌<◌}
use native.Mathlib.Decide.{ℕ_discrete}
use native.Mathlib.Nat.{le_refl, le_trans, not-suc-le-zero}
use native.Mathlib.Omega.{arith}
use borrow.Author.Tests.{leb-true, ltb-true, le-leb, lt-ltb}
use lib.Dec.{leb, ltb}
use lib.ListN.{length, get_or, set, length-set, get_or-eq_default}
use lib.Seq.{ext_get_or, get_or-set_same, get_or-set_other}
use Rattle.consistency.proofs.LineLaws.{latest_from, latest_monotone, latest_unique, orphan_free, zero_consistent}
use Rattle.consistency.specs.Lines.{AtOrBelow, Consistent, Latest, Line, Orphan, as_line}
use Rattle.consistency.specs.Lowering.{is_orphan, line_under, lower, pass, passes}
use Rattle.tables.proofs.ListLaws.{and_left, and_right}
use Rattle.tables.specs.Lists.{sum}
use Rattle.tables.specs.Table.{Message, no_message}

-- ---- the test of an orphan
pub orphan_is : (m : Message) (l : List ℕ) → is_orphan m l ≡ true → Orphan m (as_line l)
unfolding is_orphan
orphan_is m l e =
    let rest = and_right (ltb 0 m.received) (leb (as_line l m.sender) m.sent && leb m.received (as_line l m.receiver)) e in
    record {
      delivered =
          ltb-true 0 m.received (and_left (ltb 0 m.received) (leb (as_line l m.sender) m.sent && leb m.received (as_line l m.receiver)) e);
      sent_after =
          leb-true (as_line l m.sender) m.sent (and_left (leb (as_line l m.sender) m.sent) (leb m.received (as_line l m.receiver)) rest);
      received-before =
          leb-true m.received (as_line l m.receiver) (and_right (leb (as_line l m.sender) m.sent) (leb m.received (as_line l m.receiver)) rest);
    }

pub orphan_test : (m : Message) (l : List ℕ) → Orphan m (as_line l) → is_orphan m l ≡ true
unfolding is_orphan
orphan_test m l o =
    rw (
      lt-ltb 0 m.received o.delivered,
      le-leb (as_line l m.sender) m.sent o.sent_after,
      le-leb m.received (as_line l m.receiver) o.received-before,
    )

-- ---- sums
pub sum_falls : (l : List ℕ) (i v : ℕ) → v < get_or l i 0 → sum (set l i v) < sum l
unfolding sum
sum_falls [] i v h = absurd (not-suc-le-zero h)
sum_falls (x ∷ rest) zero v h = omega arith
sum_falls (x ∷ rest) (suc i) v h =
    let ih : sum (set rest i v) < sum rest = sum_falls rest i v h in
    omega arith

pub sum-zero : (l : List ℕ) → sum l ≡ 0 → (p : ℕ) → get_or l p 0 ≡ 0
unfolding sum
sum-zero [] e p = refl
sum-zero (x ∷ rest) e zero = omega arith
sum-zero (x ∷ rest) e (suc p) = sum-zero rest (omega arith) p

-- ---- one message
-- an orphan's receiver has a place in the line
receiver_place : (m : Message) (l : List ℕ) → Orphan m (as_line l) → m.receiver < length l
receiver_place m l o = go (native.Mathlib.Decide.dec_le (length l) m.receiver)
  where
    go : Dec (length l ≤ m.receiver) → m.receiver < length l
    go (yes beyond) = absurd (omega (arith, o.delivered, o.received-before, get_or-eq_default l 0 beyond))
    go (no within) = omega arith

-- what stands in the line after an orphan's receiver was put back
module _ (m : Message) (l : List ℕ) (o : Orphan m (as_line l)) where
  pub put_back_here : as_line (set l m.receiver (m.received - 1)) m.receiver ≡ m.received - 1
  put_back_here = get_or-set_same l m.receiver (m.received - 1) 0 (receiver_place m l o)

  pub put_back_under : AtOrBelow (as_line (set l m.receiver (m.received - 1))) (as_line l)
  put_back_under p = go (ℕ_discrete p m.receiver)
    where
      go : Dec (p ≡ m.receiver) → as_line (set l m.receiver (m.received - 1)) p ≤ as_line l p
      go (yes e) =
          subst⁻¹ (λ (q : ℕ). as_line (set l m.receiver (m.received - 1)) q ≤ as_line l q) e (omega (arith, put_back_here, o.received-before))
      go (no e) = omega (arith, get_or-set_other l m.receiver p (m.received - 1) 0 e)

  -- every line at or below, of which the message is no orphan, stays at or below
  pub put_back_above : (f : Line) → (Orphan m f → ⊥) → AtOrBelow f (as_line l) → AtOrBelow f (as_line (set l m.receiver (m.received - 1)))
  put_back_above f none below p = go (ℕ_discrete p m.receiver)
    where
      here : f m.receiver < m.received
      here = orphan_free m f none o.delivered (le_trans (below m.sender) o.sent_after)

      go : Dec (p ≡ m.receiver) → f p ≤ as_line (set l m.receiver (m.received - 1)) p
      go (yes e) = subst⁻¹ (λ (q : ℕ). f q ≤ as_line (set l m.receiver (m.received - 1)) q) e (omega (arith, put_back_here, here))
      go (no e) = omega (arith, get_or-set_other l m.receiver p (m.received - 1) 0 e, below p)

  pub put_back_falls : sum (set l m.receiver (m.received - 1)) < sum l
  put_back_falls = sum_falls l m.receiver (m.received - 1) (omega (arith, o.delivered, o.received-before))

-- a message either is an orphan, and its receiver is put back, or leaves the line as it is
module _ (m : Message) (l : List ℕ) where
  lowered : is_orphan m l ≡ true → lower m l ≡ set l m.receiver (m.received - 1)
  unfolding lower
  lowered e = rw e

  left : is_orphan m l ≡ false → lower m l ≡ l
  unfolding lower
  left e = rw e

  -- what holds of the line put back and of the line as it is holds of the lowered line
  lower_cases : (P : List ℕ → Type 0) → (Orphan m (as_line l) → P (set l m.receiver (m.received - 1))) → ((Orphan m (as_line l) → ⊥) → P l)
      → P (lower m l)
  lower_cases P back same = go (is_orphan m l) refl
    where
      go : (b : Bool) → is_orphan m l ≡ b → P (lower m l)
      go true e = subst⁻¹ P (lowered e) (back (orphan_is m l e))
      go false e = subst⁻¹ P (left e) (same (λ o. false≢true (sym e ∙ orphan_test m l o)))

  lower-under : AtOrBelow (as_line (lower m l)) (as_line l)
  lower-under = lower_cases (λ x. AtOrBelow (as_line x) (as_line l)) (put_back_under m l) (λ _ p. le_refl (as_line l p))

  lower_above : (f : Line) → (Orphan m f → ⊥) → AtOrBelow f (as_line l) → AtOrBelow f (as_line (lower m l))
  lower_above f none below = lower_cases (λ x. AtOrBelow f (as_line x)) (λ o. put_back_above m l o f none below) (λ _. below)

  lower-length : length (lower m l) ≡ length l
  lower-length = lower_cases (λ x. length x ≡ length l) (λ _. length-set l m.receiver (m.received - 1)) (λ _. refl)

  lower-sum : sum (lower m l) ≤ sum l
  lower-sum = lower_cases (λ x. sum x ≤ sum l) (λ o. omega (arith, put_back_falls m l o)) (λ _. le_refl (sum l))

-- ---- one pass
pass-under : (ms : List Message) (l : List ℕ) → AtOrBelow (as_line (pass ms l)) (as_line l)
unfolding pass
pass-under [] l p = le_refl (as_line l p)
pass-under (m ∷ rest) l p = le_trans (lower-under m (pass rest l) p) (pass-under rest l p)

pass_above : (ms : List Message) (l : List ℕ) (f : Line) → Consistent ms f → AtOrBelow f (as_line l) → AtOrBelow f (as_line (pass ms l))
unfolding pass
pass_above [] l f c below = below
pass_above (m ∷ rest) l f c below = lower_above m (pass rest l) f (c zero) (pass_above rest l f (λ k. c (suc k)) below)

pass-length : (ms : List Message) (l : List ℕ) → length (pass ms l) ≡ length l
unfolding pass
pass-length [] l = refl
pass-length (m ∷ rest) l = lower-length m (pass rest l) ∙ pass-length rest l

-- a line that a pass leaves as it is, with no orphan
record Settled (ms : List Message) (l : List ℕ) : Type 0 where
  same : pass ms l ≡ l
  consistent : Consistent ms (as_line l)

pub cons_consistent : (m : Message) (rest : List Message) (f : Line) → (Orphan m f → ⊥) → Consistent rest f → Consistent (m ∷ rest) f
cons_consistent m rest f none c zero = none
cons_consistent m rest f none c (suc k) = c k

pub nil_consistent : (f : Line) → Consistent [] f
nil_consistent f k o = omega (arith, o.delivered)

-- a pass either leaves the line as it is, and finds no orphan, or brings its sum down
Progress : List Message → List ℕ → Type 0
Progress ms l = Settled ms l ⊎ (sum (pass ms l) < sum l)

more_progress : (m : Message) (rest : List Message) (l : List ℕ) → Settled rest l → (b : Bool) → is_orphan m l ≡ b → Progress (m ∷ rest) l
unfolding Progress pass
more_progress m rest l s true e =
    inr (subst⁻¹ (λ (x : List ℕ). sum x < sum l) (ap (lower m) s.same ∙ lowered m l e) (put_back_falls m l (orphan_is m l e)))
more_progress m rest l s false e = inl (record {
  same = ap (lower m) s.same ∙ left m l e;
  consistent = cons_consistent m rest (as_line l) (λ o. false≢true (sym e ∙ orphan_test m l o)) s.consistent;
})

pass_progress : (ms : List Message) (l : List ℕ) → Progress ms l
unfolding Progress pass
pass_progress [] l = inl (record { same = refl; consistent = nil_consistent (as_line l) })
pass_progress (m ∷ rest) l =
    ⊎_elim (λ s. more_progress m rest l s (is_orphan m l) refl) (λ (h : sum (pass rest l) < sum l). inr (omega (arith, lower-sum m (pass rest l))))
    (pass_progress rest l)

-- ---- passes
passes-under : (n : ℕ) (ms : List Message) (l : List ℕ) → AtOrBelow (as_line (passes n ms l)) (as_line l)
unfolding passes
passes-under zero ms l p = le_refl (as_line l p)
passes-under (suc n) ms l p = le_trans (passes-under n ms (pass ms l) p) (pass-under ms l p)

passes_above : (n : ℕ) (ms : List Message) (l : List ℕ) (f : Line) → Consistent ms f → AtOrBelow f (as_line l) → AtOrBelow f (as_line (passes n ms l))
unfolding passes
passes_above zero ms l f c below = below
passes_above (suc n) ms l f c below = passes_above n ms (pass ms l) f c (pass_above ms l f c below)

passes-length : (n : ℕ) (ms : List Message) (l : List ℕ) → length (passes n ms l) ≡ length l
unfolding passes
passes-length zero ms l = refl
passes-length (suc n) ms l = passes-length n ms (pass ms l) ∙ pass-length ms l

-- a settled line stays as it is
passes_settled : (n : ℕ) (ms : List Message) (l : List ℕ) → Settled ms l → passes n ms l ≡ l
unfolding passes
passes_settled zero ms l s = refl
passes_settled (suc n) ms l s = ap (passes n ms) s.same ∙ passes_settled n ms l s

-- as many passes as the sum are enough: each one that is not the last brings it down
passes_consistent : (n : ℕ) (ms : List Message) (l : List ℕ) → sum l ≤ n → Consistent ms (as_line (passes n ms l))
unfolding passes Progress
passes_consistent zero ms l h = zero_consistent ms (as_line l) (sum-zero l (omega arith))
passes_consistent (suc n) ms l h =
    ⊎_elim
    (λ s. subst⁻¹ (λ (x : List ℕ). Consistent ms (as_line x)) (passes_settled (suc n) ms l s) s.consistent)
    (λ (f : sum (pass ms l) < sum l). passes_consistent n ms (pass ms l) (omega arith))
    (pass_progress ms l)

-- ---- the line under a ceiling
module _ (ms : List Message) (ceiling : List ℕ) where
  pub line_latest : Latest ms (as_line ceiling) (as_line (line_under ms ceiling))
  unfolding line_under
  line_latest = record {
    under = passes-under (sum ceiling) ms ceiling;
    consistent = passes_consistent (sum ceiling) ms ceiling (le_refl (sum ceiling));
    latest = λ other below c. passes_above (sum ceiling) ms ceiling other c below;
  }

  pub line_length : length (line_under ms ceiling) ≡ length ceiling
  unfolding line_under
  line_length = passes-length (sum ceiling) ms ceiling

  -- a line of the ceiling's length that is the latest one is the computed one
  pub line_is : (l : List ℕ) → length l ≡ length ceiling → Latest ms (as_line ceiling) (as_line l) → l ≡ line_under ms ceiling
  line_is l e a =
      ext_get_or 0 l (line_under ms ceiling) (e ∙ sym line_length)
      (λ p _. latest_unique ms (as_line ceiling) (as_line l) (as_line (line_under ms ceiling)) a line_latest p)

-- a lower ceiling gives no later line
pub line_monotone : (ms : List Message) (ceiling ceiling' : List ℕ) → AtOrBelow (as_line ceiling) (as_line ceiling')
    → AtOrBelow (as_line (line_under ms ceiling)) (as_line (line_under ms ceiling'))
line_monotone ms ceiling ceiling' below =
    latest_monotone ms (as_line ceiling) (as_line ceiling') _ _ below (line_latest ms ceiling) (line_latest ms ceiling')

-- any start between the line and its ceiling ends at the same line
pub line_from : (ms : List Message) (ceiling start : List ℕ) → length start ≡ length ceiling
    → AtOrBelow (as_line (line_under ms ceiling)) (as_line start)
    → AtOrBelow (as_line start) (as_line ceiling) → line_under ms start ≡ line_under ms ceiling
line_from ms ceiling start e above below =
    sym (line_is ms start (line_under ms ceiling) (line_length ms ceiling ∙ sym e)
    (latest_from ms (as_line ceiling) (as_line start) (as_line (line_under ms ceiling)) (line_latest ms ceiling) above below))

-- so does the line with an orphan's receiver put back
pub line_put_back : (ms : List Message) (l : List ℕ) (k : ℕ) (m : Message) → get_or ms k no_message ≡ m → Orphan m (as_line l)
    → line_under ms (set l m.receiver (m.received - 1)) ≡ line_under ms l
line_put_back ms l k m e o =
    let a = line_latest ms l in
    line_from ms l (set l m.receiver (m.received - 1)) (length-set l m.receiver (m.received - 1))
    (put_back_above m l o (as_line (line_under ms l)) (subst (λ (x : Message). Orphan x (as_line (line_under ms l)) → ⊥) e (a.consistent k)) a.under)
    (put_back_under m l o)

-- a consistent line is the line under itself
pub line_consistent : (ms : List Message) (l : List ℕ) → Consistent ms (as_line l) → l ≡ line_under ms l
line_consistent ms l c = line_is ms l l refl (record { under = λ p. le_refl (as_line l p); consistent = c; latest = λ other below _. below })

-- what holds of the ceiling, and goes on holding when an orphan's receiver is put back, holds of the line
module _ (P : List ℕ → Type 0) where
  abbrev PutsBack : List Message → Type 0
  PutsBack ms =
      (k : ℕ) (l : List ℕ) → Orphan (get_or ms k no_message) (as_line l) → P l
      → P (set l (get_or ms k no_message).receiver ((get_or ms k no_message).received - 1))

  pass_carries : (ms : List Message) → PutsBack ms → (l : List ℕ) → P l → P (pass ms l)
  unfolding pass
  pass_carries [] goes_on l h = h
  pass_carries (m ∷ rest) goes_on l h =
      let before : P (pass rest l) = pass_carries rest (λ k. goes_on (suc k)) l h in
      lower_cases m (pass rest l) P (λ o. goes_on zero (pass rest l) o before) (λ _. before)

  passes_carry : (n : ℕ) (ms : List Message) → PutsBack ms → (l : List ℕ) → P l → P (passes n ms l)
  unfolding passes
  passes_carry zero ms goes_on l h = h
  passes_carry (suc n) ms goes_on l h = passes_carry n ms goes_on (pass ms l) (pass_carries ms goes_on l h)

  pub line_carries : (ms : List Message) → PutsBack ms → (ceiling : List ℕ) → P ceiling → P (line_under ms ceiling)
  unfolding line_under
  line_carries ms goes_on ceiling h = passes_carry (sum ceiling) ms goes_on ceiling h
