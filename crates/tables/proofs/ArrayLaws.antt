-- An array of 32 numbers that begins with a list; lists that are filled from the front.
--     array_length, array_at          its length, and its entries
--     array_front                     its first numbers are the list
--     array_set                       one entry set
--     array_copied                    the list copied over the front of zeros
--     filled_none, filled_more, filled_all, filled_list    a list that a loop fills from the front
--     Filling                         an array of zeros that a loop fills for n processes: the invariant
--     filling_none, filling_more, filling_all, filling_array    how it begins, goes on and ends
-- Assumes nothing.
use mathlib.Core.List.{List, [], ◌∷◌, ◌++◌}
use mathlib.Core.Path.{◌≡◌, refl, sym, ap, ap₂, ◌∙◌, subst, subst⁻¹}
use Prim.Native.Nat.{ℕ, zero, suc, ◌+◌, ◌≤◌, ◌<◌, zero-le}
use native.Mathlib.Decide.{dec_lt, ℕ_discrete}
use native.Mathlib.Nat.{le_antisymm, le_of_suc-le-suc, not-suc-le-zero}
use native.Mathlib.Omega.{arith}
use lib.ListN.{length, get_or, set, take, drop, replicate, length-set, get_or-replicate, get_or-eq_default}
use lib.Seq.{ext_get_or, get_or-set_same, get_or-set_other, get_or-take, length-take-le}
use Rattle.tables.proofs.ListLaws.{get_or_tabulate, length-tabulate, set-tabulate}
use Rattle.tables.specs.Arrays.{Filled, array_of}
use Rattle.tables.specs.Lists.{tabulate}

module _ (l : List ℕ) where
  pub array_length : length (array_of l) ≡ 32
  unfolding array_of
  array_length = length-tabulate 32 (λ p. get_or l p 0)

  pub array_at : length l ≤ 32 → (p : ℕ) → get_or (array_of l) p 0 ≡ get_or l p 0
  unfolding array_of
  array_at small p = go (dec_lt p 32)
    where
      go : Dec (p < 32) → get_or (tabulate 32 (λ q. get_or l q 0)) p 0 ≡ get_or l p 0
      go (yes b) = get_or_tabulate 32 (λ q. get_or l q 0) p 0 b
      go (no b) =
          get_or-eq_default (tabulate 32 (λ q. get_or l q 0)) 0 (subst⁻¹ (λ (x : ℕ). x ≤ p) (length-tabulate 32 (λ q. get_or l q 0)) (omega arith))
          ∙ sym (get_or-eq_default l 0 (omega arith))

pub array_front : (l line : List ℕ) (n : ℕ) → line ≡ array_of l → n ≡ length l → length l ≤ 32 → take n line ≡ l
array_front l line n e same small =
    let long : length (take (length l) (array_of l)) ≡ length l = length-take-le (length l) (array_of l) (omega (arith, array_length l)) in
    ap₂ take same e ∙ ext_get_or 0 _ l long (λ p b. get_or-take (length l) (array_of l) p 0 (omega (arith, long)) ∙ array_at l small p)

pub array_set : (l : List ℕ) (i v : ℕ) → i < length l → length l ≤ 32 → set (array_of l) i v ≡ array_of (set l i v)
unfolding array_of
array_set l i v b small =
    set-tabulate 32 _ _ i v (omega arith) (sym (get_or-set_same l i v 0 b)) (λ p other. sym (get_or-set_other l i p v 0 other))

-- a list copied over the front of zeros
copied_over : (l : List ℕ) (n : ℕ) → length l ≤ n → l ++ drop (length l) (replicate n 0) ≡ tabulate n (λ p. get_or l p 0)
unfolding tabulate
copied_over [] zero small = refl
copied_over [] (suc n) small = ap (λ (r : List ℕ). 0 ∷ r) (copied_over [] n zero-le)
copied_over (x ∷ l) zero small = absurd (not-suc-le-zero small)
copied_over (x ∷ l) (suc n) small = ap (λ (r : List ℕ). x ∷ r) (copied_over l n (le_of_suc-le-suc small))

pub array_copied : (l : List ℕ) → length l ≤ 32 → l ++ drop (length l) (replicate 32 0) ≡ array_of l
unfolding array_of
array_copied l small = copied_over l 32 small

-- ---- a list that a loop fills from the front
pub filled_none : {f : ℕ → ℕ} {before : List ℕ} → Filled f 0 before before
filled_none = record { same_length = refl; front = λ i l. absurd (not-suc-le-zero l); rest = λ i l. refl }

module _ {f : ℕ → ℕ} {k : ℕ} {before after : List ℕ} (w : Filled f k before after) where
  pub filled_more : {v : ℕ} {later : List ℕ} → v ≡ f k → later ≡ set after k v → Filled f (k + 1) before later
  filled_more {v} e put = rw put record {
    same_length = length-set after k v ∙ w.same_length;
    front = λ i l inside. by_place i l inside (ℕ_discrete i k);
    rest = λ i l. get_or-set_other after k i v 0 (λ same. omega arith) ∙ w.rest i (omega arith);
  }
    where
      by_place : (i : ℕ) → i < k + 1 → i < length before → Dec (i ≡ k) → get_or (set after k v) i 0 ≡ f i
      by_place i l inside (yes same) =
          subst⁻¹ (λ (x : ℕ). get_or (set after k v) x 0 ≡ f x) same (get_or-set_same after k v 0 (omega (arith, w.same_length)) ∙ e)
      by_place i l inside (no other) = get_or-set_other after k i v 0 other ∙ w.front i (omega arith) inside

  pub filled_all : {n : ℕ} → k ≤ n → n ≤ k → Filled f n before after
  filled_all a b = subst (λ (j : ℕ). Filled f j before after) (le_antisymm a b) w

  -- the whole list, where what the loop left alone is f's already
  pub filled_list : ((i : ℕ) → k ≤ i → i < length before → get_or before i 0 ≡ f i) → after ≡ tabulate (length before) f
  filled_list left =
      ext_get_or 0 after (tabulate (length before) f) (w.same_length ∙ sym (length-tabulate (length before) f))
      (λ i l. inside i (omega (arith, w.same_length)) (dec_lt i k))
    where
      inside : (i : ℕ) → i < length before → Dec (i < k) → get_or after i 0 ≡ get_or (tabulate (length before) f) i 0
      inside i l (yes c) = w.front i c l ∙ sym (get_or_tabulate (length before) f i 0 l)
      inside i l (no c) = w.rest i (omega arith) ∙ left i (omega arith) l ∙ sym (get_or_tabulate (length before) f i 0 l)

-- ---- an array of zeros that a loop fills for n processes
pub record Filling (f : ℕ → ℕ) (n p : ℕ) (l : List ℕ) : Type 0 where
  pub within : p ≤ n
  pub filled : Filled f p (replicate 32 0) l

pub filling_none : {f : ℕ → ℕ} {n : ℕ} → Filling f n 0 (replicate 32 0)
filling_none = record { within = zero-le; filled = filled_none }

module _ {f : ℕ → ℕ} {n p : ℕ} {l : List ℕ} (h : Filling f n p l) where
  pub filling_more : {v : ℕ} → p < n → v ≡ f p → Filling f n (p + 1) (set l p v)
  filling_more b e = record { within = omega arith; filled = filled_more h.filled e refl }

  pub filling_all : n ≤ p → ((q : ℕ) → n ≤ q → f q ≡ 0) → l ≡ tabulate 32 f
  filling_all b beyond =
      filled_list h.filled (λ q c inside. get_or-replicate 32 q 0 0 inside ∙ sym (beyond q (omega (arith, h.within))))

-- the array of a list, where the loop went over its entries
pub filling_array : (list : List ℕ) {n p : ℕ} {l : List ℕ} → Filling (λ q. get_or list q 0) n p l → n ≤ p → n ≡ length list
    → l ≡ array_of list
unfolding array_of
filling_array list h b e = filling_all h b (λ q c. get_or-eq_default list 0 (omega arith))
