-- Laws of lists that are given by their entries, and of searches.
--     and_left, and_right, or_false_left, or_false_right, or_none    what two tests together tell of each
--     length-tabulate, get_or_tabulate           the two laws of `tabulate`
--     tabulate_ext, tabulate-get_or              two such lists are equal by their entries; every list is one
--     tabulate-append, tabulate_more           one after another; one entry more
--     set-tabulate                             one entry set
--     sum_more, sum_same                       the sum of such a list: one entry more; entries that are all the same
--     sum-lower                                a list that is nowhere higher than another, and somewhere lower
--     any_none, any_some, none_of              `any`, by the entries of the list
--     any_below_more, any_below_found, any_below_none, none_below    `any_below`, as a loop finds it
--     found_below                              an index that passes, where some index does
--     any-tabulate, any_below_ext, any_below_or  one test in the other's terms
--     any_answer                               what an iterator's `any` finds in a list
--     rows_more, rows_ext                      one list more; equal lists
--     rows_grow, rows_room                     fewer lists are no longer; room for one more
--     rows-sum, rows_most                      lists of so many entries at most
--     rows-length, rows_at, rows_from          lists of one length
--     map-append, map_rows                     a function applied to each entry
--     select-rows                              the numbers that pass, as lists of one or none
--     select_more, select_skip, select_gap     numbers that pass, and numbers that do not
--     select_ext, select_room, select_small    equal tests; room for one more; lengths
-- Assumes nothing.
use mathlib.Core.Bool.{Bool, true, false, cond, ◌&&◌, ◌||◌, or-true, true≢false, false≢true}
use mathlib.Core.List.{List, [], ◌∷◌, ◌++◌, map, append_assoc, append-nil}
use mathlib.Core.Logic.{⊎_elim}
use mathlib.Core.Path.{◌≡◌, refl, sym, ap, ap₂, ◌∙◌, subst}
use Prim.Native.Nat.{ℕ, zero, suc, ◌+◌, ◌*◌, ◌-◌, ◌<◌, ◌≤◌, zero-le, suc-le-suc}
use native.Mathlib.Nat.{add-zero, zero-add, suc-add, le_of_suc-le-suc, not-suc-le-zero, eq-or-lt_of_le, mul-suc, mul-le-mul_left}
use native.Mathlib.Numerals.{add-one}
use native.Mathlib.Omega.{arith}
use lib.ListN.{length, get_or, set, drop, length-append, get_or-append}
use lib.Seq.{drop-append-le, drop-append_seam, get_or-append-add}
use Rattle.std.specs.List.{IsAnyAnswer}
use Rattle.tables.specs.Lists.{any, any_below, rows, select, sum, tabulate}

pub and_left : (a b : Bool) → (a && b) ≡ true → a ≡ true
and_left true b e = refl
and_left false b e = e

pub and_right : (a b : Bool) → (a && b) ≡ true → b ≡ true
and_right true b e = e
and_right false b e = absurd (false≢true e)

pub or_false_left : (a b : Bool) → (a || b) ≡ false → a ≡ false
or_false_left true b e = e
or_false_left false b e = refl

pub or_false_right : (a b : Bool) → (a || b) ≡ false → b ≡ false
or_false_right true b e = absurd (true≢false e)
or_false_right false b e = e

pub or_none : (b : Bool) → (b || false) ≡ b
or_none true = refl
or_none false = refl

module _ {A : Type 0} where
  pub length-tabulate : (n : ℕ) (f : ℕ → A) → length (tabulate n f) ≡ n
  unfolding tabulate
  length-tabulate zero f = refl
  length-tabulate (suc n) f = ap suc (length-tabulate n (λ k. f (suc k)))

  pub get_or_tabulate : (n : ℕ) (f : ℕ → A) (k : ℕ) (d : A) → k < n → get_or (tabulate n f) k d ≡ f k
  unfolding tabulate
  get_or_tabulate zero f k d h = absurd (not-suc-le-zero h)
  get_or_tabulate (suc n) f zero d h = refl
  get_or_tabulate (suc n) f (suc k) d h = get_or_tabulate n (λ i. f (suc i)) k d (le_of_suc-le-suc h)

  pub tabulate_ext : (n : ℕ) (f g : ℕ → A) → ((k : ℕ) → k < n → f k ≡ g k) → tabulate n f ≡ tabulate n g
  unfolding tabulate
  tabulate_ext zero f g e = refl
  tabulate_ext (suc n) f g e =
      let here : f zero ≡ g zero = e zero (suc-le-suc zero-le) in
      let rest = tabulate_ext n (λ k. f (suc k)) (λ k. g (suc k)) (λ k h. e (suc k) (suc-le-suc h)) in
      cc

  pub tabulate-get_or : (l : List A) (d : A) → tabulate (length l) (λ k. get_or l k d) ≡ l
  unfolding tabulate
  tabulate-get_or [] d = refl
  tabulate-get_or (x ∷ rest) d = ap (λ (l : List A). x ∷ l) (tabulate-get_or rest d)

  pub tabulate-append : (n m : ℕ) (f : ℕ → A) → tabulate (n + m) f ≡ tabulate n f ++ tabulate m (λ k. f (n + k))
  unfolding tabulate
  tabulate-append zero m f = simp zero-add
  tabulate-append (suc n) m f =
      simp (suc-add n, tabulate-append n m (λ k. f (suc k)))

  pub tabulate_more : (n : ℕ) (f : ℕ → A) → tabulate (n + 1) f ≡ tabulate n f ++ (f n ∷ [])
  unfolding tabulate
  tabulate_more n f = tabulate-append n 1 f ∙ ap (λ (k : ℕ). tabulate n f ++ (f k ∷ [])) (add-zero n)

  pub set-tabulate : (n : ℕ) (f g : ℕ → A) (i : ℕ) (v : A) → i < n → v ≡ g i → ((p : ℕ) → (p ≡ i → ⊥) → f p ≡ g p)
      → set (tabulate n f) i v ≡ tabulate n g
  unfolding tabulate
  set-tabulate zero f g i v l here other = absurd (not-suc-le-zero l)
  set-tabulate (suc n) f g zero v l here other = ap₂ ◌∷◌ here (tabulate_ext n _ _ (λ p _. other (suc p) (λ e. omega arith)))
  set-tabulate (suc n) f g (suc i) v l here other =
      ap₂ ◌∷◌ (other zero (λ e. omega arith)) (set-tabulate n _ _ i v (le_of_suc-le-suc l) here (λ p e. other (suc p) (λ e'. e (omega arith))))

  pub any_none : (test : A → Bool) (l : List A) (d : A) → ((k : ℕ) → k < length l → test (get_or l k d) ≡ false) → any test l ≡ false
  unfolding any
  any_none test [] d h = refl
  any_none test (x ∷ rest) d h =
      let here : test x ≡ false = h zero (suc-le-suc zero-le) in
      rw here (any_none test rest d (λ k b. h (suc k) (suc-le-suc b)))

  pub any_some : (test : A → Bool) (l : List A) (d : A) (k : ℕ) → k < length l → test (get_or l k d) ≡ true → any test l ≡ true
  unfolding any
  any_some test [] d k b h = absurd (not-suc-le-zero b)
  any_some test (x ∷ rest) d zero b h = rw h
  any_some test (x ∷ rest) d (suc k) b h = rw (any_some test rest d k (le_of_suc-le-suc b) h) (or-true (test x))

  pub none_of : (test : A → Bool) (l : List A) (d : A) → any test l ≡ false → (k : ℕ) → k < length l → test (get_or l k d) ≡ false
  unfolding any
  none_of test [] d e k b = absurd (not-suc-le-zero b)
  none_of test (x ∷ rest) d e zero b = or_false_left (test x) (any test rest) e
  none_of test (x ∷ rest) d e (suc k) b = none_of test rest d (or_false_right (test x) (any test rest) e) k (le_of_suc-le-suc b)

-- what a loop finds that goes up from 0: one more index fails the test, or an index passes it
pub any_below_more : (test : ℕ → Bool) (k : ℕ) → any_below k test ≡ false → test k ≡ false → any_below (k + 1) test ≡ false
unfolding any_below
any_below_more test k below here = rw (add-one k) (rw (here, below))

pub any_below_found : (test : ℕ → Bool) (n k : ℕ) → k < n → test k ≡ true → any_below n test ≡ true
unfolding any_below
any_below_found test zero k b h = absurd (not-suc-le-zero b)
any_below_found test (suc n) k b h =
    ⊎_elim (λ (e : k ≡ n). rw ((rw e at h))) (λ (l : k < n). rw (any_below_found test n k l h) (or-true (test n))) (eq-or-lt_of_le (le_of_suc-le-suc b))

pub any_below_none : (test : ℕ → Bool) (n : ℕ) → ((k : ℕ) → k < n → test k ≡ false) → any_below n test ≡ false
unfolding any_below
any_below_none test zero fails = refl
any_below_none test (suc n) fails = rw (fails n (omega arith)) (any_below_none test n (λ k b. fails k (omega arith)))

pub none_below : (test : ℕ → Bool) (n : ℕ) → any_below n test ≡ false → (k : ℕ) → k < n → test k ≡ false
none_below test n none k b = is_false (test k) refl
  where
    is_false : (r : Bool) → test k ≡ r → r ≡ false
    is_false true e = sym (any_below_found test n k b e) ∙ none
    is_false false e = refl

-- an index that passes, where some index does
abbrev pub Found : (ℕ → Bool) → ℕ → Type 0
Found test n = (k : ℕ) × (k < n) × (test k ≡ true)

found_here : (test : ℕ → Bool) (n : ℕ) (r : Bool) → test n ≡ r → (r || any_below n test) ≡ true → (any_below n test ≡ true → Found test n)
    → Found test (suc n)
found_here test n true here e below = (n, omega arith, here)
found_here test n false here e below =
    let found = below e in
    (found.0, omega (arith, found.1), found.2)

pub found_below : (test : ℕ → Bool) (n : ℕ) → any_below n test ≡ true → Found test n
unfolding any_below
found_below test zero e = absurd (false≢true e)
found_below test (suc n) e = found_here test n (test n) refl e (found_below test n)

-- two tests that agree below n find the same
pub any_below_ext : (a b : ℕ → Bool) (n : ℕ) → ((k : ℕ) → k < n → a k ≡ b k) → any_below n a ≡ any_below n b
unfolding any_below
any_below_ext a b zero e = refl
any_below_ext a b (suc n) e =
    let here : a n ≡ b n = e n (omega arith) in
    let below : any_below n a ≡ any_below n b = any_below_ext a b n (λ k l. e k (omega arith)) in
    cc

or_exchange : (a b x y : Bool) → ((a || b) || (x || y)) ≡ ((a || x) || (b || y))
or_exchange true b x y = refl
or_exchange false true true y = refl
or_exchange false false true y = refl
or_exchange false true false y = refl
or_exchange false false false y = refl

pub any_below_or : (a b : ℕ → Bool) (n : ℕ) → any_below n (λ k. a k || b k) ≡ (any_below n a || any_below n b)
unfolding any_below
any_below_or a b zero = refl
any_below_or a b (suc n) = ap (λ (r : Bool). (a n || b n) || r) (any_below_or a b n) ∙ or_exchange (a n) (b n) (any_below n a) (any_below n b)

-- a test over a list that is given by its entries
module _ {A : Type 0} (test : A → Bool) (n : ℕ) (f : ℕ → A) where
  by_cases : (r : Bool) → any_below n (λ k. test (f k)) ≡ r → any test (tabulate n f) ≡ r
  by_cases true e =
      let found = found_below (λ k. test (f k)) n e in
      let k = found.0 in
      any_some test (tabulate n f) (f k) k (rw length-tabulate found.1) (ap test (get_or_tabulate n f k (f k) found.1) ∙ found.2)
  by_cases false e =
      any_none test (tabulate n f) (f 0)
      (λ k l.
      let below : k < n = rw length-tabulate at l in
      ap test (get_or_tabulate n f k (f 0) below) ∙ none_below (λ k. test (f k)) n e k below)

  pub any-tabulate : any test (tabulate n f) ≡ any_below n (λ k. test (f k))
  any-tabulate = by_cases (any_below n (λ k. test (f k))) refl

-- what an iterator's `any` finds in a list
pub any_answer : (test : ℕ → Bool) (l : List ℕ) (r : Bool) → IsAnyAnswer (λ x b. test x ≡ b) l r
    → r ≡ any_below (length l) (λ k. test (get_or l k 0))
any_answer test l true (k, b, h) = sym (any_below_found _ (length l) k b (h 0))
any_answer test l false none = sym (any_below_none _ (length l) (λ k b. none k 0 zero-le b))

-- ---- sums
pub sum_more : (n : ℕ) (f : ℕ → ℕ) → sum (tabulate (suc n) f) ≡ sum (tabulate n f) + f n
unfolding sum tabulate
sum_more zero f = omega arith
sum_more (suc n) f = omega (arith, sum_more n (λ k. f (suc k)))

pub sum_same : (w n : ℕ) → sum (tabulate n (λ k. w)) ≡ w * n
unfolding sum tabulate
sum_same w zero = omega arith
sum_same w (suc n) = omega (arith, sum_same w n, mul-suc w n)

-- a list that is nowhere higher than another, and somewhere lower
sum-no_higher : (a b : List ℕ) → length a ≡ length b → ((k : ℕ) → k < length b → get_or a k 0 ≤ get_or b k 0) → sum a ≤ sum b
unfolding sum
sum-no_higher [] b e each = omega arith
sum-no_higher (x ∷ a) [] e each = absurd (omega (arith, e))
sum-no_higher (x ∷ a) (y ∷ b) e each =
    omega (arith, each 0 (omega arith), sum-no_higher a b (omega (arith, e)) (λ k l. each (suc k) (omega arith)))

pub sum-lower : (a b : List ℕ) → length a ≡ length b → ((k : ℕ) → k < length b → get_or a k 0 ≤ get_or b k 0) → (k : ℕ) → k < length b
    → get_or a k 0 < get_or b k 0 → sum a < sum b
unfolding sum
sum-lower [] [] e each k l lower = absurd (not-suc-le-zero l)
sum-lower [] (y ∷ b) e each k l lower = absurd (omega (arith, e))
sum-lower (x ∷ a) [] e each k l lower = absurd (not-suc-le-zero l)
sum-lower (x ∷ a) (y ∷ b) e each zero l lower =
    omega (arith, lower, sum-no_higher a b (omega (arith, e)) (λ k l. each (suc k) (omega arith)))
sum-lower (x ∷ a) (y ∷ b) e each (suc k) l lower =
    omega (arith, each 0 (omega arith), sum-lower a b (omega (arith, e)) (λ k l. each (suc k) (omega arith)) k (le_of_suc-le-suc l) lower)

-- ---- lists one after another
module _ {A : Type 0} where
  pub rows_more : (f : ℕ → List A) (n : ℕ) → rows f (n + 1) ≡ rows f n ++ f n
  unfolding rows
  rows_more f n = rw (add-one n)

  pub rows_ext : (f g : ℕ → List A) (n : ℕ) → ((k : ℕ) → k < n → f k ≡ g k) → rows f n ≡ rows g n
  unfolding rows
  rows_ext f g zero e = refl
  rows_ext f g (suc n) e =
      let here : f n ≡ g n = e n (omega arith) in
      let below : rows f n ≡ rows g n = rows_ext f g n (λ k l. e k (omega arith)) in
      cc

  -- fewer lists are no longer
  grow_by : (f : ℕ → List A) (m d : ℕ) → length (rows f m) ≤ length (rows f (m + d))
  unfolding rows
  grow_by f m zero = omega (arith, ap (λ (k : ℕ). length (rows f k)) (add-zero m))
  grow_by f m (suc d) =
      let place : m + suc d ≡ suc (m + d) = omega arith in
      rw place (omega (arith, grow_by f m d, length-append (rows f (m + d)) (f (m + d))))

  pub rows_grow : (f : ℕ → List A) (m n : ℕ) → m ≤ n → length (rows f m) ≤ length (rows f n)
  rows_grow f m n l =
      let whole : m + (n - m) ≡ n = omega arith in
      subst (λ (k : ℕ). length (rows f m) ≤ length (rows f k)) whole (grow_by f m (n - m))

  pub rows_room : (f : ℕ → List A) (k n : ℕ) → k < n → length (rows f k) + length (f k) ≤ length (rows f n)
  rows_room f k n l = omega (arith, rows_grow f (k + 1) n (omega arith), ap length (rows_more f k), length-append (rows f k) (f k))

  -- lists of so many entries at most, each of its own number; of w
  pub rows-sum : (f : ℕ → List A) (most : ℕ → ℕ) (n : ℕ) → ((k : ℕ) → k < n → length (f k) ≤ most k)
      → length (rows f n) ≤ sum (tabulate n most)
  unfolding rows
  rows-sum f most zero each = omega arith
  rows-sum f most (suc n) each =
      omega (arith, length-append (rows f n) (f n), rows-sum f most n (λ k l. each k (omega arith)), each n (omega arith), sum_more n most)

  pub rows_most : (f : ℕ → List A) (w n : ℕ) → ((k : ℕ) → k < n → length (f k) ≤ w) → length (rows f n) ≤ w * n
  rows_most f w n each = omega (arith, rows-sum f (λ k. w) n each, sum_same w n)

  -- lists of w entries each
  module _ (f : ℕ → List A) (w : ℕ) (each : (k : ℕ) → length (f k) ≡ w) where
    pub rows-length : (n : ℕ) → length (rows f n) ≡ w * n
    unfolding rows
    rows-length zero = omega arith
    rows-length (suc n) = omega (arith, length-append (rows f n) (f n), rows-length n, each n, mul-suc w n)

    pub rows_at : (n k i : ℕ) (d : A) → k < n → i < w → get_or (rows f n) (w * k + i) d ≡ get_or (f k) i d
    unfolding rows
    rows_at zero k i d l b = absurd (not-suc-le-zero l)
    rows_at (suc n) k i d l b = ⊎_elim here (λ c. below c (rows_at n k i d c b)) (eq-or-lt_of_le (le_of_suc-le-suc l))
      where
        here : k ≡ n → get_or (rows f n ++ f n) (w * k + i) d ≡ get_or (f k) i d
        here e =
            let place : w * k + i ≡ length (rows f n) + i = ap (λ (x : ℕ). w * x + i) e ∙ ap (λ (x : ℕ). x + i) (sym (rows-length n)) in
            ap (λ (x : ℕ). get_or (rows f n ++ f n) x d) place ∙ get_or-append-add (rows f n) (f n) i d ∙ ap (λ (x : ℕ). get_or (f x) i d) (sym e)

        below : k < n → get_or (rows f n) (w * k + i) d ≡ get_or (f k) i d → get_or (rows f n ++ f n) (w * k + i) d ≡ get_or (f k) i d
        below c e = get_or-append (rows f n) (f n) d (w * k + i) (omega (arith, rows-length n, mul-suc w k, mul-le-mul_left w c)) ∙ e

    -- behind the first k of them, the next one
    pub rows_from : (n k : ℕ) → k < n → (rest : List A) × (drop (w * k) (rows f n) ≡ f k ++ rest)
    unfolding rows
    rows_from zero k l = absurd (not-suc-le-zero l)
    rows_from (suc n) k l = ⊎_elim here (λ c. further c (rows_from n k c)) (eq-or-lt_of_le (le_of_suc-le-suc l))
      where
        here : k ≡ n → (rest : List A) × (drop (w * k) (rows f n ++ f n) ≡ f k ++ rest)
        here e =
            let place : w * k ≡ length (rows f n) = ap (λ (x : ℕ). w * x) e ∙ sym (rows-length n) in
            let whole = ap (λ (x : ℕ). drop x (rows f n ++ f n)) place ∙ drop-append_seam (rows f n) (f n) in
            ([], whole ∙ ap f (sym e) ∙ sym (append-nil (f k)))

        further : k < n → (rest : List A) × (drop (w * k) (rows f n) ≡ f k ++ rest) → (rest : List A) × (drop (w * k) (rows f n ++ f n) ≡ f k ++ rest)
        further c before =
            let inside : w * k ≤ length (rows f n) = omega (arith, rows-length n, mul-suc w k, mul-le-mul_left w c) in (
              before.0 ++ f n,
              drop-append-le (w * k) (rows f n) (f n) inside ∙ ap (λ (x : List A). x ++ f n) before.1
                  ∙ append_assoc (f k) before.0 (f n),
            )

module _ {A B : Type 0} (g : A → B) where
  pub map-append : (xs ys : List A) → map g (xs ++ ys) ≡ map g xs ++ map g ys
  map-append [] ys = refl
  map-append (x ∷ rest) ys = ap (λ (l : List B). g x ∷ l) (map-append rest ys)

  pub map_rows : (f : ℕ → List A) (n : ℕ) → map g (rows f n) ≡ rows (λ k. map g (f k)) n
  unfolding rows
  map_rows f zero = refl
  map_rows f (suc n) = map-append (rows f n) (f n) ∙ ap (λ (l : List B). l ++ map g (f n)) (map_rows f n)

-- ---- the numbers that pass a test
module _ (test : ℕ → Bool) where
  abbrev pub one : ℕ → List ℕ
  one n = cond (test n) (n ∷ []) []

  pub select-rows : (n : ℕ) → select test n ≡ rows one n
  unfolding select rows
  select-rows zero = refl
  select-rows (suc n) = ap (λ (l : List ℕ). l ++ one n) (select-rows n)

  pub select_more : (n : ℕ) → test n ≡ true → select test (n + 1) ≡ select test n ++ (n ∷ [])
  unfolding select
  select_more n e = rw (add-one n, e)

  pub select_skip : (n : ℕ) → test n ≡ false → select test (n + 1) ≡ select test n
  unfolding select
  select_skip n e = rw (add-one n, e) (append-nil (select test n))

  gap_by : (from d : ℕ) → ((c : ℕ) → from ≤ c → c < from + d → test c ≡ false) → select test (from + d) ≡ select test from
  gap_by from zero none = ap (select test) (add-zero from)
  gap_by from (suc d) none =
      let place : from + suc d ≡ from + d + 1 = omega arith in
      ap (select test) place ∙ select_skip (from + d) (none (from + d) (omega arith) (omega arith))
      ∙ gap_by from d (λ c l b. none c l (omega arith))

  -- no number between passes
  pub select_gap : (from to : ℕ) → from ≤ to → ((c : ℕ) → from ≤ c → c < to → test c ≡ false) → select test to ≡ select test from
  select_gap from to l none =
      let whole : from + (to - from) ≡ to = omega arith in
      ap (select test) (sym whole) ∙ gap_by from (to - from) (λ c b b'. none c b (omega arith))

  select_grow : (m n : ℕ) → m ≤ n → length (select test m) ≤ length (select test n)
  select_grow m n l = rw (select-rows m, select-rows n) (rows_grow one m n l)

  pub select_room : (k n : ℕ) → k < n → test k ≡ true → length (select test k) + 1 ≤ length (select test n)
  select_room k n l e =
      omega (arith, select_grow (k + 1) n (omega arith), ap length (select_more k e), length-append (select test k) (k ∷ []))

  short : (n : ℕ) (b : Bool) → test n ≡ b → length (one n) ≤ 1
  short n true e = rw e (omega arith)
  short n false e = rw e (omega arith)

  pub select_small : (n : ℕ) → length (select test n) ≤ n
  unfolding select
  select_small zero = omega arith
  select_small (suc n) = omega (arith, length-append (select test n) (one n), select_small n, short n (test n) refl)

pub select_ext : (a b : ℕ → Bool) (n : ℕ) → ((k : ℕ) → k < n → a k ≡ b k) → select a n ≡ select b n
select_ext a b n e = select-rows a n ∙ rows_ext (one a) (one b) n (λ k l. ap (λ (x : Bool). cond x (k ∷ []) []) (e k l)) ∙ sym (select-rows b n)
