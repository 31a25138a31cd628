-- Text laid over a buffer, numbers in decimal, and rows.
--     overlay-..                      text over a buffer
--     written_none, byte_within, ..   text after text
--     text_laid, laid_length          what a writer has put lies over its buffer, and leaves its length
--     Left, all_left, part_room, ..   a text that is put part by part
--     Putting, putting-..             a loop that puts one text after another
--     one_digit, more_digits, ..      a number's digits
--     each_rows, letters              the texts of a list's entries, by their places
--     field_parts, row_parts, ..      a field and a row, part by part
-- Assumes nothing.
use mathlib.Core.Bool.{Bool, true, false}
use mathlib.Core.List.{List, [], ◌∷◌, ◌++◌, append_assoc, append-nil}
use mathlib.Core.Path.{◌≡◌, refl, sym, ap, ap₂, ◌∙◌}
use Prim.Native.Nat.{ℕ, zero, suc, ◌+◌, ◌*◌, ◌/◌, ◌%◌, ◌≤◌, ◌<◌}
use denote.Ref.{at_last}
use borrow.Author.Tests.{le-ltb, lt-ltb, ltb-false, ltb-true}
use native.Mathlib.Nat.{le_antisymm}
use native.Mathlib.Omega.{arith}
use lib.Dec.{ltb}
use lib.ListN.{length, drop, get_or, set, length-append}
use Rattle.text_writer.specs.Text.{Fits, Laid, decimal, digits, each, field, overlay, row}
use Rattle.text_writer.specs.Writers.{standing, written}
use Rattle.text_writer.specs.declared.TextWriter.{TextWriter}
use Rattle.tables.proofs.ListLaws.{rows_more, rows_room}
use Rattle.tables.specs.Lists.{rows}

overlay-length : (b : List ℕ) (at : ℕ) (xs : List ℕ) → length (overlay b at xs) ≡ length b
unfolding overlay
overlay-length [] at xs = refl
overlay-length (x ∷ b) zero [] = refl
overlay-length (x ∷ b) zero (y ∷ xs) = ap suc (overlay-length b zero xs)
overlay-length (x ∷ b) (suc at) xs = ap suc (overlay-length b at xs)

overlay_none : (b : List ℕ) (at : ℕ) → overlay b at [] ≡ b
unfolding overlay
overlay_none [] at = refl
overlay_none (x ∷ b) zero = refl
overlay_none (x ∷ b) (suc at) = ap (λ (r : List ℕ). x ∷ r) (overlay_none b at)

overlay_beyond : (b : List ℕ) (at : ℕ) (xs : List ℕ) → length b ≤ at → overlay b at xs ≡ b
unfolding overlay
overlay_beyond [] at xs l = refl
overlay_beyond (x ∷ b) zero xs l = absurd (omega (arith, l))
overlay_beyond (x ∷ b) (suc at) xs l = ap (λ (r : List ℕ). x ∷ r) (overlay_beyond b at xs (omega (arith, l)))

overlay_one : (b : List ℕ) (at c : ℕ) → at < length b → overlay b at (c ∷ []) ≡ set b at c
unfolding overlay
overlay_one [] at c l = absurd (omega (arith, l))
overlay_one (x ∷ b) zero c l = ap (λ (r : List ℕ). c ∷ r) (overlay_none b zero)
overlay_one (x ∷ b) (suc at) c l = ap (λ (r : List ℕ). x ∷ r) (overlay_one b at c (omega (arith, l)))

overlay_more : (b : List ℕ) (at : ℕ) (xs ys : List ℕ) → overlay (overlay b at xs) (at + length xs) ys ≡ overlay b at (xs ++ ys)
unfolding overlay
overlay_more [] at xs ys = refl
overlay_more (x ∷ b) zero [] ys = refl
overlay_more (x ∷ b) zero (y ∷ xs) ys =
    let place : zero + length (y ∷ xs) ≡ suc (zero + length xs) = omega arith in
    rw place (ap (λ (r : List ℕ). y ∷ r) (overlay_more b zero xs ys))
overlay_more (x ∷ b) (suc at) xs ys =
    let place : suc at + length xs ≡ suc (at + length xs) = omega arith in
    rw place (ap (λ (r : List ℕ). x ∷ r) (overlay_more b at xs ys))

pub overlay_front : (b xs : List ℕ) → length xs ≤ length b → overlay b 0 xs ≡ xs ++ drop (length xs) b
unfolding overlay
overlay_front [] [] l = refl
overlay_front [] (x ∷ xs) l = absurd (omega (arith, l))
overlay_front (x ∷ b) [] l = refl
overlay_front (x ∷ b) (y ∷ xs) l = ap (λ (r : List ℕ). y ∷ r) (overlay_front b xs (omega (arith, l)))

-- ---- text after text
abbrev left_with : TextWriter → ℕ → List ℕ → TextWriter
left_with w at text = standing (at_last w.text text) at

written_none : (w : TextWriter) → w ≡ written w []
written_none w = ap₂ (left_with w) (omega arith) (sym (overlay_none w.text.now w.at))

written_more : (w : TextWriter) (xs ys : List ℕ) → written (written w xs) ys ≡ written w (xs ++ ys)
written_more w xs ys = ap₂ (left_with w) (omega (arith, length-append xs ys)) (overlay_more w.text.now w.at xs ys)

-- a byte: beyond the end, and within
pub byte_beyond : (w : TextWriter) (c : ℕ) → length w.text.now ≤ w.at → standing w.text (w.at + 1) ≡ written w (c ∷ [])
byte_beyond w c l = ap (left_with w (w.at + 1)) (sym (overlay_beyond w.text.now w.at (c ∷ []) l))

pub byte_within : (w : TextWriter) (c : ℕ) → w.at < length w.text.now
    → standing (at_last w.text (set w.text.now w.at c)) (w.at + 1) ≡ written w (c ∷ [])
byte_within w c l = ap (left_with w (w.at + 1)) (sym (overlay_one w.text.now w.at c l))

-- what a writer has put lies over its buffer
pub text_laid : {w after : TextWriter} {text : List ℕ} → after ≡ written w text → Laid w.text.now after.text.now w.at text after.at
text_laid e = record { contents = ap (λ (w : TextWriter). w.text.now) e; place = ap (λ (w : TextWriter). w.at) e }

-- text that is laid over a buffer leaves its length
pub laid_length : {before after : List ℕ} {at : ℕ} {xs : List ℕ} {next : ℕ} → Laid before after at xs next → length after ≡ length before
laid_length {before} {after} {at} {xs} p = ap length p.contents ∙ overlay-length before at xs

-- the same text
pub laid_same : {before after xs ys : List ℕ} {at next : ℕ} → xs ≡ ys → Laid before after at xs next → Laid before after at ys next
laid_same e p = rw e at p

-- ---- a text that is put part by part
abbrev pub joined : List (List ℕ) → List ℕ
joined = each (λ part. part)

-- Parts of a whole text are left to be put; once they are, the whole is.
pub record Left (whole : List ℕ) (before after : TextWriter) (parts : List (List ℕ)) : Type 0 where
  pub room : Fits after.at (joined parts)
  pub ends : {later : TextWriter} → later ≡ written after (joined parts) → later ≡ written before whole

-- all of it is left at first, and nothing in the end
pub all_left : {whole : List ℕ} {before : TextWriter} {parts : List (List ℕ)} → whole ≡ joined parts → Fits before.at whole
    → Left whole before before parts
all_left e room = record { room = rw (← e) room; ends = λ put. rw e put }

pub none_left : {whole : List ℕ} {before after : TextWriter} → Left whole before after [] → after ≡ written before whole
unfolding each
none_left left = left.ends (written_none _)

module _ {whole : List ℕ} {before after : TextWriter} {part : List ℕ} {parts : List (List ℕ)} (left : Left whole before after (part ∷ parts)) where
  pub part_room : Fits after.at part
  unfolding each
  part_room = omega (arith, left.room, length-append part (joined parts))

  pub part_put : {later : TextWriter} → later ≡ written after part → Left whole before later parts
  unfolding each
  part_put {later} put =
      let place : later.at ≡ after.at + length part = ap (λ (w : TextWriter). w.at) put in
      record {
        room = omega (arith, left.room, place, length-append part (joined parts));
        ends = λ rest. left.ends (rest ∙ ap (λ (w : TextWriter). written w (joined parts)) put ∙ written_more after part (joined parts));
      }

-- ---- a loop that puts the texts of n places, one after another, has put those of k places
pub record Putting (f : ℕ → List ℕ) (n : ℕ) (whole : List ℕ) (before after : TextWriter) (k : ℕ) : Type 0 where
  pub all : rows f n ≡ whole
  pub room : Fits before.at whole
  pub within : k ≤ n
  pub put : after ≡ written before (rows f k)

pub putting_none : {f : ℕ → List ℕ} {n : ℕ} {whole : List ℕ} {before : TextWriter} → rows f n ≡ whole → Fits before.at whole
    → Putting f n whole before before 0
unfolding rows
putting_none all room = record { all = all; room = room; within = omega arith; put = written_none _ }

module _ {f : ℕ → List ℕ} {n : ℕ} {whole : List ℕ} {before after : TextWriter} {k : ℕ} (h : Putting f n whole before after k) where
  -- the text that comes next
  module _ {text : List ℕ} (is : text ≡ f k) (l : k < n) where
    pub putting_room : Fits after.at text
    putting_room = omega (arith, h.room, ap (λ (w : TextWriter). w.at) h.put, rows_room f k n l, ap length h.all, ap length is)

    pub putting_more : {later : TextWriter} → later ≡ written after text → Putting f n whole before later (k + 1)
    putting_more put = record {
      all = h.all;
      room = h.room;
      within = omega arith;
      put =
          put ∙ ap₂ written h.put is ∙ written_more before (rows f k) (f k) ∙ ap (written before) (sym (rows_more f k));
    }

  pub putting_all : n ≤ k → after ≡ written before whole
  putting_all l = h.put ∙ ap (written before) (ap (rows f) (le_antisymm h.within l) ∙ h.all)

-- ---- a number's digits
-- steps beyond those that are enough change nothing
digits_enough : (s s' n : ℕ) → n < s → n < s' → digits s n ≡ digits s' n
unfolding digits
digits_enough zero s' n l l' = absurd (omega arith)
digits_enough (suc s) zero n l l' = absurd (omega arith)
digits_enough (suc s) (suc s') n l l' = go (digits_enough s s' (n / 10)) (ltb n 10) refl where
  go : (n / 10 < s → n / 10 < s' → digits s (n / 10) ≡ digits s' (n / 10)) → (b : Bool) → ltb n 10 ≡ b
      → digits (suc s) n ≡ digits (suc s') n
  go below true e = rw e
  go below false e =
      let large : 10 ≤ n = ltb-false n 10 e in
      rw e (ap (λ (r : List ℕ). r ++ ((48 + n % 10) ∷ [])) (below (omega arith) (omega arith)))

pub decimal_small : (n : ℕ) → n < 10 → decimal n ≡ (48 + n) ∷ []
unfolding decimal digits
decimal_small n l = rw (lt-ltb n 10 l)

pub decimal_more : (n : ℕ) → 10 ≤ n → decimal n ≡ decimal (n / 10) ++ ((48 + n % 10) ∷ [])
unfolding decimal digits
decimal_more n l =
    rw (le-ltb n 10 l) (ap (λ (r : List ℕ). r ++ ((48 + n % 10) ∷ [])) (digits_enough n (suc (n / 10)) (n / 10) (omega arith) (omega arith)))

-- a number of one digit, put by its byte; one of more digits: those of its tenth, and its last
pub one_digit : {n : ℕ} {before : TextWriter} → n < 10 → Fits before.at (decimal n) → Left (decimal n) before before (((48 + n) ∷ []) ∷ [])
unfolding each
one_digit {n} l = all_left (decimal_small n l)

pub more_digits : {n : ℕ} {before : TextWriter} → 10 ≤ n → Fits before.at (decimal n)
    → Left (decimal n) before before (decimal (n / 10) ∷ ((48 + n % 10) ∷ []) ∷ [])
unfolding each
more_digits {n} l = all_left (decimal_more n l)

-- a number below 10 × 10 × .. has at most so many digits
unfoldable pub tens : ℕ → ℕ
tens zero = 10
tens (suc k) = 10 * tens k

pub decimal_few : (k n : ℕ) → n < tens k → length (decimal n) ≤ suc k
unfolding tens
decimal_few zero n l = omega (arith, ap length (decimal_small n l))
decimal_few (suc k) n l = go (decimal_few k (n / 10)) (ltb n 10) refl where
  go : (n / 10 < tens k → length (decimal (n / 10)) ≤ suc k) → (b : Bool) → ltb n 10 ≡ b → length (decimal n) ≤ suc (suc k)
  go below true e = omega (arith, ap length (decimal_small n (ltb-true n 10 e)))
  go below false e =
      let large : 10 ≤ n = ltb-false n 10 e in
      omega (arith, ap length (decimal_more n large), length-append (decimal (n / 10)) ((48 + n % 10) ∷ []), below (omega (arith, l)))

-- ---- the texts of a list's entries, by their places
module _ {A : Type 0} (g : A → List ℕ) (d : A) where
  rows_front : (f : ℕ → List ℕ) (n : ℕ) → rows f (suc n) ≡ f zero ++ rows (λ k. f (suc k)) n
  unfolding rows
  rows_front f zero = sym (append-nil (f zero))
  rows_front f (suc n) = ap (λ (r : List ℕ). r ++ f (suc n)) (rows_front f n) ∙ append_assoc (f zero) (rows (λ k. f (suc k)) n) (f (suc n))

  pub each_rows : (xs : List A) → each g xs ≡ rows (λ k. g (get_or xs k d)) (length xs)
  unfolding each rows
  each_rows [] = refl
  each_rows (x ∷ xs) = ap (λ (r : List ℕ). g x ++ r) (each_rows xs) ∙ sym (rows_front (λ k. g (get_or (x ∷ xs) k d)) (length xs))

each_self : (xs : List ℕ) → each (λ c. c ∷ []) xs ≡ xs
unfolding each
each_self [] = refl
each_self (x ∷ xs) = ap (λ (r : List ℕ). x ∷ r) (each_self xs)

-- a word, letter by letter
pub letters : (word : List ℕ) → rows (λ k. get_or word k 0 ∷ []) (length word) ≡ word
letters word = sym (each_rows (λ c. c ∷ []) 0 word) ∙ each_self word

-- ---- fields and rows, part by part
pub field_parts : (n : ℕ) {before : TextWriter} → Fits before.at (field n) → Left (field n) before before ((32 ∷ []) ∷ decimal n ∷ [])
unfolding field each
field_parts n = all_left (ap (λ (r : List ℕ). 32 ∷ r) (sym (append-nil (decimal n))))

behind : (word : List ℕ) {xs ys : List ℕ} → xs ≡ ys → word ++ xs ≡ word ++ ys
behind word e = ap (λ (r : List ℕ). word ++ r) e

module _ (word : List ℕ) {before : TextWriter} where
  pub row_parts : (ns : List ℕ) → Fits before.at (row word ns) → Left (row word ns) before before (word ∷ each field ns ∷ (10 ∷ []) ∷ [])
  unfolding row each
  row_parts ns = all_left refl

  pub row_more : (n : ℕ) (ns : List ℕ) → Fits before.at (row word (n ∷ ns))
      → Left (row word (n ∷ ns)) before before (word ∷ field n ∷ each field ns ∷ (10 ∷ []) ∷ [])
  unfolding row each
  row_more n ns = all_left (behind word (append_assoc (field n) (each field ns) (10 ∷ [])))

  pub row_one : (n : ℕ) → Fits before.at (row word (n ∷ [])) → Left (row word (n ∷ [])) before before (word ∷ field n ∷ (10 ∷ []) ∷ [])
  unfolding row each
  row_one n = all_left (behind word (append_assoc (field n) [] (10 ∷ [])))
