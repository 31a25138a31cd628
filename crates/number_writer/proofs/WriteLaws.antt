-- Numbers and bytes put into a buffer, one after another.
--     Front, front_next               bytes put to the front of a buffer, and further ones after them
--     numbers_size                    the length of numbers, as bytes
--     Written                         pieces of one width, put from a place on by a loop: the invariant
--     written_none, written_more, written_room, written_all    how it begins, goes on and ends
--     numbers_more, numbers_all       the pieces are numbers of one width
-- Assumes nothing.
use mathlib.Core.List.{List, [], ◌∷◌, ◌++◌, append-nil}
use mathlib.Core.Path.{◌≡◌, refl, sym, ap, ap₂, ◌∙◌, subst}
use Prim.Native.Nat.{ℕ, zero, suc, ◌+◌, ◌*◌, ◌≤◌, ◌<◌, zero-le}
use native.Mathlib.Nat.{le_antisymm, mul-le-mul_left, mul-suc, zero-add}
use native.Mathlib.Numerals.{add-one}
use native.Mathlib.Omega.{arith}
use lib.ListN.{length, length-append}
use Rattle.tables.proofs.ListLaws.{length-tabulate, rows-length, rows_more, tabulate_more}
use Rattle.tables.proofs.NumberLaws.{all_append, length_bytes, length-put_at, length-u16s, put_at_more, put_at_none}
use Rattle.tables.specs.Lists.{rows, tabulate}
use Rattle.tables.specs.Numbers.{bytes_of, bytes_of_all, put_at, u16s}

-- Bytes stand at the front of a buffer, up to a place, and the rest of it is as it was.
pub record Front (before after bytes : List ℕ) (at : ℕ) : Type 0 where
  pub put : after ≡ put_at before 0 bytes
  pub size : length bytes ≡ at

-- further bytes, put where the last ones end
pub front_next : {before after bytes : List ℕ} {at : ℕ} → Front before after bytes at → (later more : List ℕ) (next : ℕ)
    → later ≡ put_at after at more → length more + at ≡ next → next ≤ length before → Front before later (bytes ++ more) next
front_next {before} {after} {bytes} {at} f later more next put size fits = record {
  put = put ∙ ap₂ (λ (b : List ℕ) (i : ℕ). put_at b i more) f.put (sym f.size ∙ sym (zero-add (length bytes)))
      ∙ put_at_more before 0 bytes more (omega (arith, f.size));
  size = omega (arith, length-append bytes more, f.size);
}

-- the length of numbers given by their entries, as bytes
pub numbers_size : (n : ℕ) (f : ℕ → ℕ) → length (u16s (tabulate n f)) ≡ 2 * n
numbers_size n f = length-u16s (tabulate n f) ∙ ap (λ (x : ℕ). 2 * x) (length-tabulate n f)

-- ---- a loop that puts one piece after another
-- The first k of n pieces, each of w entries, stand from a place on, and the rest of the buffer is as it was.
pub record Written (w : ℕ) (piece : ℕ → List ℕ) (n at : ℕ) (before after : List ℕ) (k : ℕ) : Type 0 where
  pub within : k ≤ n
  pub room : at + w * n ≤ length before
  pub same_length : length after ≡ length before
  pub contents : after ≡ put_at before at (rows piece k)

module _ (w : ℕ) (piece : ℕ → List ℕ) (n at : ℕ) (before : List ℕ) where
  pub written_none : at + w * n ≤ length before → Written w piece n at before before 0
  unfolding rows
  written_none room = record { within = zero-le; room = room; same_length = refl; contents = sym (put_at_none before at) }

  module _ (each : (k : ℕ) → length (piece k) ≡ w) (after : List ℕ) (k : ℕ) (h : Written w piece n at before after k) where
    -- there is room for it
    pub written_room : k < n → at + w * k + w ≤ length after
    written_room l = omega (arith, h.room, h.same_length, mul-suc w k, mul-le-mul_left w l)

    -- piece k was put at its place
    pub written_more : k < n → (i : ℕ) (later : List ℕ) → i ≡ at + w * k → later ≡ put_at after i (piece k)
        → Written w piece n at before later (k + 1)
    written_more l i later place put =
        let fits : at + w * k + w ≤ length before = omega (arith, written_room l, h.same_length) in
        let so_far = rows-length piece w each k in
        record {
          within = omega arith;
          room = h.room;
          same_length = ap length put ∙ length-put_at after i (piece k) (omega (arith, h.same_length, each k)) ∙ h.same_length;
          contents =
              put ∙ ap₂ (λ (b : List ℕ) (j : ℕ). put_at b j (piece k)) h.contents (omega (arith, so_far))
              ∙ put_at_more before at (rows piece k) (piece k) (omega (arith, so_far, each k)) ∙ ap (put_at before at) (sym (rows_more piece k));
        }

    pub written_all : n ≤ k → after ≡ put_at before at (rows piece n)
    written_all l = subst (λ (j : ℕ). after ≡ put_at before at (rows piece j)) (le_antisymm h.within l) h.contents

-- ---- numbers as such pieces
module _ (w : ℕ) (f : ℕ → ℕ) where
  numbers_put : (n : ℕ) → rows (λ k. bytes_of w (f k)) n ≡ bytes_of_all w (tabulate n f)
  unfolding rows tabulate bytes_of_all
  numbers_put zero = refl
  numbers_put (suc n) =
      ap₂ (λ (l r : List ℕ). l ++ r) (numbers_put n) (sym (append-nil (bytes_of w (f n)))) ∙ sym (all_append w (tabulate n f) (f n ∷ []))
      ∙ ap (bytes_of_all w) (sym (tabulate_more n f) ∙ ap (λ (j : ℕ). tabulate j f) (add-one n))

  -- in w bytes each
  module _ {n at : ℕ} {before after : List ℕ} {k : ℕ} (h : Written w (λ k. bytes_of w (f k)) n at before after k) where
    pub numbers_more : k < n → {later : List ℕ} → later ≡ put_at after (at + w * k) (bytes_of w (f k))
        → Written w (λ k. bytes_of w (f k)) n at before later (k + 1)
    numbers_more l put = written_more w (λ k. bytes_of w (f k)) n at before (λ k. length_bytes w (f k)) after k h l (at + w * k) _ refl put

    pub numbers_all : n ≤ k → after ≡ put_at before at (bytes_of_all w (tabulate n f))
    numbers_all l =
        written_all w (λ k. bytes_of w (f k)) n at before (λ k. length_bytes w (f k)) after k h l ∙ ap (put_at before at) (numbers_put n)
