-- Laws of the sheet's lists: they hold exactly what passes, in order and without repeats.
--     listed_append, listed_map             membership in lists that are put together
--     listed_any                            a search for a listed number
--     select_listed, rows_listed            the numbers that pass a test; lists one after another
--     ordered_append, select_ordered, rows_ordered, ordered_once    their order, without repeats
--     keeps_checkpoint_lem, keeps_message_lem       the two tests of the sheet, in words of numbers and lines
--     checkpoints_listed, messages_listed   the sheet lists what passes those tests
--     checkpoints_ordered, messages_ordered    by process and then number; rising
--     checkpoints_once, messages_once       no entry twice
-- Assumes nothing.
use mathlib.Core.Bool.{Bool, true, false, cond, or-true, ◌||◌}
use mathlib.Core.List.{List, [], ◌∷◌, ◌++◌, map}
use mathlib.Core.Logic.{◌↔◌, ◌⊎◌, inl, inr}
use mathlib.Core.Path.{◌≡◌, refl, sym, ap, ◌∙◌, subst, subst⁻¹}
use Prim.Native.Nat.{ℕ, zero, suc, ◌+◌, ◌-◌, ◌≤◌, ◌<◌}
use native.Mathlib.Decide.{dec_lt, ℕ_discrete}
use native.Mathlib.Nat.{le_of_suc-le-suc, not-suc-le-zero}
use native.Mathlib.Omega.{arith}
use borrow.Author.Tests.{eq-eqb, eqb-true, lt-ltb, ltb-true}
use lib.Dec.{eqb, ltb}
use lib.ListN.{length, get_or, length-append, length-map, get_or-append, get_or-map}
use lib.Seq.{get_or-append-add}
use Rattle.consistency.specs.Lines.{Line, as_line}
use Rattle.tables.proofs.FormatLaws.{known_process}
use Rattle.keep_sheet.specs.Sheet.{Checkpoint, crosses, keeps_checkpoint, keeps_message, kept_checkpoints, kept_messages}
use Rattle.consistency.specs.Ceilings.{holder_line}
use Rattle.tables.proofs.ListLaws.{and_left, and_right, any_some, any_below_found, found_below, one, select-rows}
use Rattle.tables.specs.Lists.{Listed, any, any_below, rows, select}
use Rattle.tables.specs.Table.{Message, Table, count_of, message_count, message_of, process_count}

-- ---- membership
module _ {A : Type 0} where
  -- within a list, the default does not matter
  pub any_default : (l : List A) (n : ℕ) (d d' : A) → n < length l → get_or l n d ≡ get_or l n d'
  any_default [] n d d' b = absurd (not-suc-le-zero b)
  any_default (x ∷ rest) zero d d' b = refl
  any_default (x ∷ rest) (suc n) d d' b = any_default rest n d d' (le_of_suc-le-suc b)

  pub listed_at : (l : List A) (n : ℕ) (d : A) → n < length l → Listed (get_or l n d) l
  unfolding Listed
  listed_at l n d b = (n, b, any_default l n (get_or l n d) d b)

  pub listed_none : (x : A) → Listed x [] → ⊥
  unfolding Listed
  listed_none x h = not-suc-le-zero h.1

  pub listed_one : (x y : A) → Listed x (y ∷ []) ↔ (y ≡ x)
  unfolding Listed
  listed_one x y = (λ h. is h.0 h.1 h.2, λ e. (0, omega arith, e))
    where
      is : (n : ℕ) → n < 1 → get_or (y ∷ []) n x ≡ x → y ≡ x
      is zero b e = e
      is (suc n) b e = absurd (omega arith)

  module _ (x : A) (l l' : List A) where
    pub listed_left : Listed x l → Listed x (l ++ l')
    unfolding Listed
    listed_left h = (h.0, omega (arith, h.1, length-append l l'), get_or-append l l' x h.0 h.1 ∙ h.2)

    pub listed_right : Listed x l' → Listed x (l ++ l')
    unfolding Listed
    listed_right h = (length l + h.0, omega (arith, h.1, length-append l l'), get_or-append-add l l' h.0 x ∙ h.2)

    pub listed_append : Listed x (l ++ l') → Listed x l ⊎ Listed x l'
    unfolding Listed
    listed_append h = go (dec_lt h.0 (length l))
      where
        go : Dec (h.0 < length l) → Listed x l ⊎ Listed x l'
        go (yes b) = inl (h.0, b, sym (get_or-append l l' x h.0 b) ∙ h.2)
        go (no b) =
            let n = h.0 - length l in
            let place : length l + n ≡ h.0 = omega arith in
            inr (n, omega (arith, h.1, length-append l l'), sym (get_or-append-add l l' n x) ∙ ap (λ (k : ℕ). get_or (l ++ l') k x) place ∙ h.2)

-- a search finds a number that is listed
pub listed_any : (k : ℕ) (l : List ℕ) → Listed k l → any (eqb k) l ≡ true
unfolding Listed
listed_any k l h = any_some (eqb k) l k h.0 h.1 (eq-eqb k (get_or l h.0 k) (sym h.2))

module _ {A B : Type 0} (f : A → B) (l : List A) where
  pub listed_map : (x : A) → Listed x l → Listed (f x) (map f l)
  unfolding Listed
  listed_map x h = (h.0, subst⁻¹ (λ (k : ℕ). h.0 < k) (length-map l f) h.1, get_or-map f l h.0 x ∙ ap f h.2)

  pub map_listed : (d : A) (y : B) → Listed y (map f l) → (x : A) × Listed x l × (f x ≡ y)
  unfolding Listed
  map_listed d y h =
      let n = h.0 in (
        get_or l n d,
        listed_at l n d (subst (λ (k : ℕ). n < k) (length-map l f) h.1),
        sym (get_or-map f l n d) ∙ any_default (map f l) n (f d) y h.1 ∙ h.2,
      )

-- ---- order
-- Each entry of a list stands in a relation to every later one.
unfoldable pub Ordered : {A : Type 0} → (A → A → Type 0) → List A → Type 0
Ordered {A} R l = (a b : ℕ) (d : A) → a < b → b < length l → R (get_or l a d) (get_or l b d)

module _ {A : Type 0} (R : A → A → Type 0) where
  pub ordered_none : Ordered R []
  unfolding Ordered
  ordered_none a b d h k = absurd (not-suc-le-zero k)

  pub ordered_one : (x : A) → Ordered R (x ∷ [])
  unfolding Ordered
  ordered_one x a b d h k = absurd (omega arith)

  pub ordered_append : (l l' : List A) → Ordered R l → Ordered R l' → ((x y : A) → Listed x l → Listed y l' → R x y) → Ordered R (l ++ l')
  unfolding Ordered
  ordered_append l l' o o' across a b d h k = go (dec_lt a (length l)) (dec_lt b (length l))
    where
      behind : (n : ℕ) → length l ≤ n → get_or (l ++ l') n d ≡ get_or l' (n - length l) d
      behind n f =
          let place : n ≡ length l + (n - length l) = omega arith in
          ap (λ (i : ℕ). get_or (l ++ l') i d) place ∙ get_or-append-add l l' (n - length l) d

      late : length l ≤ b → b - length l < length l'
      late f = omega (arith, length-append l l')

      go : Dec (a < length l) → Dec (b < length l) → R (get_or (l ++ l') a d) (get_or (l ++ l') b d)
      go (yes x) (yes y) = rw (get_or-append l l' d a x, get_or-append l l' d b y) (o a b d h y)
      go (yes x) (no y) =
          rw (get_or-append l l' d a x, behind b (omega arith))
          (across (get_or l a d) (get_or l' (b - length l) d) (listed_at l a d x) (listed_at l' (b - length l) d (late (omega arith))))
      go (no x) (yes y) = absurd (omega arith)
      go (no x) (no y) = rw (behind a (omega arith), behind b (omega arith)) (o' (a - length l) (b - length l) d (omega arith) (late (omega arith)))

  pub ordered_map : {B : Type 0} (S : B → B → Type 0) (f : B → A) (l : List B) → ((x y : B) → S x y → R (f x) (f y)) → Ordered S l
      → Ordered R (map f l)
  unfolding Ordered
  ordered_map S f [] keep o a b d h k = absurd (not-suc-le-zero k)
  ordered_map S f (x ∷ rest) keep o a b d h k =
      let within : b < length (x ∷ rest) = subst (λ (n : ℕ). b < n) (length-map (x ∷ rest) f) k in
      rw (
        any_default (map f (x ∷ rest)) a d (f x) (omega arith) ∙ get_or-map f (x ∷ rest) a x,
        any_default (map f (x ∷ rest)) b d (f x) k ∙ get_or-map f (x ∷ rest) b x,
      ) (keep _ _ (o a b x h within))

  -- so no entry stands twice, where none is in the relation to itself
  pub ordered_once : ((x : A) → R x x → ⊥) → (l : List A) → Ordered R l → (a b : ℕ) (d : A) → a < length l → b < length l
      → get_or l a d ≡ get_or l b d → a ≡ b
  unfolding Ordered
  ordered_once never l o a b d ha hb e = go (dec_lt a b) (dec_lt b a)
    where
      go : Dec (a < b) → Dec (b < a) → a ≡ b
      go (yes x) _ = absurd (never (get_or l b d) (subst (λ (y : A). R y (get_or l b d)) e (o a b d x hb)))
      go (no x) (yes y) = absurd (never (get_or l b d) (subst (λ (z : A). R (get_or l b d) z) e (o b a d y ha)))
      go (no x) (no y) = omega arith

-- ---- lists one after another
module _ {A : Type 0} (f : ℕ → List A) where
  pub rows_listed : (x : A) (n : ℕ) → Listed x (rows f n) → (i : ℕ) × (i < n) × Listed x (f i)
  unfolding rows
  rows_listed x zero h = absurd (listed_none x h)
  rows_listed x (suc n) h = go (listed_append x (rows f n) (f n) h) (rows_listed x n)
    where
      go : Listed x (rows f n) ⊎ Listed x (f n) → (Listed x (rows f n) → (i : ℕ) × (i < n) × Listed x (f i))
          → (i : ℕ) × (i < suc n) × Listed x (f i)
      go (inl early) before =
          let found = before early in
          (found.0, omega (arith, found.1), found.2)
      go (inr here) before = (n, omega arith, here)

  pub listed_rows : (x : A) (n i : ℕ) → i < n → Listed x (f i) → Listed x (rows f n)
  unfolding rows
  listed_rows x zero i b h = absurd (not-suc-le-zero b)
  listed_rows x (suc n) i b h = go (ℕ_discrete i n) (λ l. listed_rows x n i l h)
    where
      go : Dec (i ≡ n) → (i < n → Listed x (rows f n)) → Listed x (rows f n ++ f n)
      go (yes e) before = listed_right x (rows f n) (f n) (subst (λ (k : ℕ). Listed x (f k)) e h)
      go (no e) before = listed_left x (rows f n) (f n) (before (omega arith))

  pub rows_ordered : (R : A → A → Type 0) → ((i : ℕ) → Ordered R (f i))
      → ((i j : ℕ) (x y : A) → i < j → Listed x (f i) → Listed y (f j) → R x y)
      → (n : ℕ) → Ordered R (rows f n)
  unfolding rows
  rows_ordered R each across zero = ordered_none R
  rows_ordered R each across (suc n) =
      ordered_append R (rows f n) (f n) (rows_ordered R each across n) (each n)
      (λ x y h k.
      let row = rows_listed x n h in
      across row.0 n x y row.1 row.2 k)

-- ---- the numbers that pass a test
module _ (test : ℕ → Bool) where
  one_listed : (k i : ℕ) → Listed k (one test i) → (i ≡ k) × (test i ≡ true)
  one_listed k i h = go (test i) refl h
    where
      go : (b : Bool) → test i ≡ b → Listed k (cond b (i ∷ []) []) → (i ≡ k) × (test i ≡ true)
      go true e l = ((listed_one k i).0 l, e)
      go false e l = absurd (listed_none k l)

  pub select_listed : (n k : ℕ) → Listed k (select test n) ↔ ((k < n) × (test k ≡ true))
  select_listed n k = subst⁻¹ (λ (l : List ℕ). Listed k l ↔ ((k < n) × (test k ≡ true))) (select-rows test n) (there, back)
    where
      there : Listed k (rows (one test) n) → (k < n) × (test k ≡ true)
      there h =
          let row = rows_listed (one test) k n h in
          let passes = one_listed k row.0 row.2 in
          (subst (λ (i : ℕ). i < n) passes.0 row.1, ap test (sym passes.0) ∙ passes.1)

      back : (k < n) × (test k ≡ true) → Listed k (rows (one test) n)
      back h = listed_rows (one test) k n k h.0 (subst⁻¹ (λ (b : Bool). Listed k (cond b (k ∷ []) [])) h.1 ((listed_one k k).1 refl))

  pub select_ordered : (n : ℕ) → Ordered ◌<◌ (select test n)
  select_ordered n =
      subst⁻¹ (λ (l : List ℕ). Ordered ◌<◌ l) (select-rows test n)
      (rows_ordered (one test) ◌<◌ (λ i. each i (test i))
      (λ i j x y b h k. omega (arith, (one_listed x i h).0, (one_listed y j k).0)) n)
    where
      each : (i : ℕ) (b : Bool) → Ordered ◌<◌ (cond b (i ∷ []) [])
      each i true = ordered_one ◌<◌ i
      each i false = ordered_none ◌<◌

-- ---- the tests of the sheet
-- A message crosses a line: it was sent before it and received after it.
abbrev pub Across : Message → Line → Type 0
Across m l = (m.sent < l m.sender) × (l m.receiver < m.received)

-- Some single holder's line passes a test.
abbrev pub HolderWith : Table → (List ℕ → Type 0) → Type 0
HolderWith t Passes = (k : ℕ) × (k < process_count t) × Passes (holder_line t k)

module _ (t : Table) where
  module _ (i c : ℕ) where
    pub keeps_checkpoint_lem : (keeps_checkpoint t i c ≡ true) ↔ ((c < count_of t i) × HolderWith t (λ l. as_line l i ≡ c))
    unfolding keeps_checkpoint
    keeps_checkpoint_lem = (
      λ e.
          let found = found_below on_line (process_count t) (and_right (ltb c (count_of t i)) (any_below (process_count t) on_line) e) in (
            ltb-true c (count_of t i) (and_left (ltb c (count_of t i)) (any_below (process_count t) on_line) e),
            (found.0, found.1, eqb-true (as_line (holder_line t found.0) i) c found.2),
          ),
      λ h.
          let k = h.1.0 in
          rw (lt-ltb c (count_of t i) h.0, any_below_found on_line (process_count t) k h.1.1 (eq-eqb (as_line (holder_line t k) i) c h.1.2)),
    )
      where
        on_line : ℕ → Bool
        on_line k = eqb (as_line (holder_line t k) i) c

  module _ (m : Message) where
    crosses_is : (l : Line) → (crosses l m ≡ true) ↔ Across m l
    unfolding crosses
    crosses_is l = (
      λ e. (
        ltb-true m.sent (l m.sender) (and_left (ltb m.sent (l m.sender)) (ltb (l m.receiver) m.received) e),
        ltb-true (l m.receiver) m.received (and_right (ltb m.sent (l m.sender)) (ltb (l m.receiver) m.received) e),
      ),
      λ h. rw (lt-ltb m.sent (l m.sender) h.0, lt-ltb (l m.receiver) m.received h.1),
    )

    pub keeps_message_lem : (keeps_message t m ≡ true) ↔ ((m.received ≡ 0) ⊎ HolderWith t (λ l. Across m (as_line l)))
    unfolding keeps_message
    keeps_message_lem = (there (eqb m.received 0) refl, back)
      where
        across : ℕ → Bool
        across k = crosses (as_line (holder_line t k)) m

        there : (b : Bool) → eqb m.received 0 ≡ b → (b || any_below (process_count t) across) ≡ true
            → (m.received ≡ 0) ⊎ HolderWith t (λ l. Across m (as_line l))
        there true waits e = inl (eqb-true m.received 0 waits)
        there false waits e =
            let found = found_below across (process_count t) e in
            inr (found.0, found.1, (crosses_is (as_line (holder_line t found.0))).0 found.2)

        back : (m.received ≡ 0) ⊎ HolderWith t (λ l. Across m (as_line l)) → (eqb m.received 0 || any_below (process_count t) across) ≡ true
        back (inl e) = rw (eq-eqb m.received 0 e)
        back (inr h) =
            rw (any_below_found across (process_count t) h.0 h.1 ((crosses_is (as_line (holder_line t h.0))).1 h.2))
            (or-true (eqb m.received 0))

-- ---- the lists of the sheet
module _ (t : Table) where
  abbrev row : ℕ → List Checkpoint
  row i = map (λ c. record { process = i; number = c }) (select (keeps_checkpoint t i) (count_of t i))

  row_listed : (i : ℕ) (x : Checkpoint) → Listed x (row i) → (x.process ≡ i) × (keeps_checkpoint t i x.number ≡ true)
  row_listed i x h =
      let entry = map_listed (λ c. record { process = i; number = c }) (select (keeps_checkpoint t i) (count_of t i)) 0 x h in
      let same : entry.0 ≡ x.number = ap (λ (y : Checkpoint). y.number) entry.2 in (
        sym (ap (λ (y : Checkpoint). y.process) entry.2),
        ap (keeps_checkpoint t i) (sym same) ∙ ((select_listed (keeps_checkpoint t i) (count_of t i) entry.0).0 entry.1).1,
      )

  pub checkpoints_listed : (i c : ℕ) → Listed {A = Checkpoint} (record { process = i; number = c }) (kept_checkpoints t) ↔
      (keeps_checkpoint t i c ≡ true)
  unfolding kept_checkpoints
  checkpoints_listed i c = (there, back)
    where
      there : Listed {A = Checkpoint} (record { process = i; number = c }) (rows row (process_count t)) → keeps_checkpoint t i c ≡ true
      there h =
          let found = rows_listed row (record { process = i; number = c }) (process_count t) h in
          let passes = row_listed found.0 (record { process = i; number = c }) found.2 in
          ap (λ (p : ℕ). keeps_checkpoint t p c) passes.0 ∙ passes.1

      back : keeps_checkpoint t i c ≡ true → Listed {A = Checkpoint} (record { process = i; number = c }) (rows row (process_count t))
      back e =
          let below : c < count_of t i = ((keeps_checkpoint_lem t i c).0 e).0 in
          listed_rows row (record { process = i; number = c }) (process_count t) i (known_process t i c below)
          (listed_map (λ c. record { process = i; number = c }) (select (keeps_checkpoint t i) (count_of t i)) c
          ((select_listed (keeps_checkpoint t i) (count_of t i) c).1 (below, e)))

  pub messages_listed : (k : ℕ) → Listed k (kept_messages t) ↔ ((k < message_count t) × (keeps_message t (message_of t k) ≡ true))
  unfolding kept_messages
  messages_listed k = select_listed (λ k. keeps_message t (message_of t k)) (message_count t) k

-- By process, and then by number.
unfoldable pub Earlier : Checkpoint → Checkpoint → Type 0
Earlier x y = (x.process < y.process) ⊎ ((x.process ≡ y.process) × (x.number < y.number))

module _ (t : Table) where
  pub checkpoints_ordered : Ordered Earlier (kept_checkpoints t)
  unfolding kept_checkpoints Earlier
  checkpoints_ordered =
      rows_ordered (row t) Earlier
      (λ i. ordered_map Earlier ◌<◌ (λ c. record { process = i; number = c }) (select (keeps_checkpoint t i) (count_of t i)) (λ x y b. inr (refl, b))
      (select_ordered (keeps_checkpoint t i) (count_of t i)))
      (λ i j x y b h k. inl (omega (arith, (row_listed t i x h).0, (row_listed t j y k).0)))
      (process_count t)

  pub messages_ordered : Ordered ◌<◌ (kept_messages t)
  unfolding kept_messages
  messages_ordered = select_ordered (λ k. keeps_message t (message_of t k)) (message_count t)

  pub checkpoints_once : (a b : ℕ) (d : Checkpoint) → a < length (kept_checkpoints t) → b < length (kept_checkpoints t)
      → get_or (kept_checkpoints t) a d ≡ get_or (kept_checkpoints t) b d → a ≡ b
  unfolding Earlier
  checkpoints_once = ordered_once Earlier never (kept_checkpoints t) checkpoints_ordered
    where
      never : (x : Checkpoint) → Earlier x x → ⊥
      never x (inl h) = omega arith
      never x (inr h) = omega (arith, h.1)

  pub messages_once : (a b d : ℕ) → a < length (kept_messages t) → b < length (kept_messages t) → get_or (kept_messages t) a d
      ≡ get_or (kept_messages t) b d
      → a ≡ b
  messages_once = ordered_once ◌<◌ (λ x h. omega arith) (kept_messages t) messages_ordered
