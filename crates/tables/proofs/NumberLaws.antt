-- Laws of numbers in bytes, over their width.
--     number_at_beyond, u16_at_last              a number at the end of the bytes
--     number_at-take, number_at-drop, number_at-rest    a number in a part of the bytes
--     length_bytes, length-all, all_append, all-rows    the bytes of numbers
--     bytes_split                               those of a number, in two parts
--     four_bytes                                 those of 32 bits, as std has them
--     length-put_at, put_at_none, put_at_one, part_put, put_at_more  bytes put into a buffer
--     number_at-all                             the numbers that bytes were made of, read again
--     later-number                             a number behind other bytes
--     length-u16s, u16s-append, u16_at-u16s     of 16 bits
-- Assumes nothing.
use mathlib.Core.List.{List, [], ◌∷◌, ◌++◌, append_assoc}
use mathlib.Core.Path.{◌≡◌, refl, sym, ap, ◌∙◌}
use Prim.Native.Nat.{ℕ, zero, suc, ◌+◌, ◌*◌, ◌/◌, ◌%◌, ◌^◌, ◌<◌, ◌≤◌}
use native.Mathlib.Nat.{add-zero, le_refl, le_of_suc-le-suc, mul-suc, mul-zero, not-suc-le-zero, pow-succ'}
use native.Mathlib.Omega.{arith}
use lib.ListN.{length, get_or, take, drop, set, length-append, length-drop, length-take, take-append-drop, get_or-eq_default}
use lib.Seq.{drop-append-add, drop-append_seam, drop-drop, get_or-take, get_or-drop, length-take-le, sets-eq, take_at}
use borrow.Rule.Slice.PartMut.{put_mid}
use Rattle.std.proofs.lemmas.Slice.{between_to_end}
use Rattle.std.specs.Int.{to_le_bytes, w32}
use Rattle.std.specs.List.{slice_range}
use Rattle.tables.specs.Lists.{rows}
use Rattle.tables.specs.Numbers.{bytes_of, bytes_of_all, number_at, put_at, u16_at, u16s, u32_bytes}

-- ---- a number that is read
pub number_at_beyond : (w : ℕ) (bytes : List ℕ) (at : ℕ) → length bytes ≤ at → number_at w bytes at ≡ 0
unfolding number_at
number_at_beyond zero bytes at h = refl
number_at_beyond (suc w) bytes at h =
    let here : get_or bytes at 0 ≡ 0 = get_or-eq_default bytes 0 h in
    omega (arith, number_at_beyond w bytes (at + 1) (omega arith))

-- at the last byte the high byte is 0
pub u16_at_last : (bytes : List ℕ) (at : ℕ) → length bytes ≤ at + 1 → u16_at bytes at ≡ get_or bytes at 0 + 256 * 0
unfolding number_at
u16_at_last bytes at h =
    let high : get_or bytes (at + 1) 0 ≡ 0 = get_or-eq_default bytes 0 h in
    omega arith

pub number_at-take : (w n : ℕ) (bytes : List ℕ) (at : ℕ) → at + w ≤ n → number_at w (take n bytes) at ≡ number_at w bytes at
unfolding number_at
number_at-take zero n bytes at h = refl
number_at-take (suc w) n bytes at h = omega (arith, get_or-take n bytes at 0 (omega arith), number_at-take w n bytes (at + 1) (omega arith))

pub number_at-drop : (w n : ℕ) (bytes : List ℕ) (at : ℕ) → number_at w (drop n bytes) at ≡ number_at w bytes (n + at)
unfolding number_at
number_at-drop zero n bytes at = refl
number_at-drop (suc w) n bytes at =
    let place : n + (at + 1) ≡ n + at + 1 = omega arith in
    omega (arith, get_or-drop n bytes at 0, number_at-drop w n bytes (at + 1), ap (number_at w bytes) place)

-- a number at a place of the bytes stands at the front of what is left from there on
pub number_at-rest : (w : ℕ) (bytes : List ℕ) (at : ℕ) {rest : List ℕ} → rest ≡ slice_range bytes at (length bytes)
    → number_at w rest 0 ≡ number_at w bytes at
number_at-rest w bytes at is =
    ap (λ (l : List ℕ). number_at w l 0) (is ∙ between_to_end bytes at (length bytes) (le_refl _))
    ∙ number_at-drop w at bytes 0 ∙ ap (number_at w bytes) (add-zero at)

-- ---- the bytes of numbers
pub length_bytes : (w n : ℕ) → length (bytes_of w n) ≡ w
unfolding bytes_of
length_bytes zero n = refl
length_bytes (suc w) n = ap suc (length_bytes w (n / 256))

pub length-all : (w : ℕ) (ns : List ℕ) → length (bytes_of_all w ns) ≡ w * length ns
unfolding bytes_of_all
length-all w [] = sym (mul-zero w)
length-all w (n ∷ rest) = omega (arith, length-append (bytes_of w n) (bytes_of_all w rest), length_bytes w n, length-all w rest, mul-suc w (length rest))

pub length-u16s : (ns : List ℕ) → length (u16s ns) ≡ 2 * length ns
length-u16s = length-all 2

pub all_append : (w : ℕ) (xs ys : List ℕ) → bytes_of_all w (xs ++ ys) ≡ bytes_of_all w xs ++ bytes_of_all w ys
unfolding bytes_of_all
all_append w [] ys = refl
all_append w (x ∷ rest) ys =
    ap (λ (l : List ℕ). bytes_of w x ++ l) (all_append w rest ys) ∙ sym (append_assoc (bytes_of w x) (bytes_of_all w rest) (bytes_of_all w ys))

-- of lists of numbers, one after another
pub all-rows : (w : ℕ) (f : ℕ → List ℕ) (n : ℕ) → bytes_of_all w (rows f n) ≡ rows (λ k. bytes_of_all w (f k)) n
unfolding rows bytes_of_all
all-rows w f zero = refl
all-rows w f (suc n) = all_append w (rows f n) (f n) ∙ ap (λ (l : List ℕ). l ++ bytes_of_all w (f n)) (all-rows w f n)

pub u16s-append : (xs ys : List ℕ) → u16s (xs ++ ys) ≡ u16s xs ++ u16s ys
u16s-append = all_append 2

-- of a number: those of its low 16 bits, and those of what is left
pub bytes_split : (w n : ℕ) → bytes_of (suc (suc w)) n ≡ bytes_of 2 (n % 65536) ++ bytes_of w (n / 65536)
unfolding bytes_of
bytes_split w n =
    let rest : n / 256 / 256 ≡ n / 65536 = omega arith in
    let whole : n % 65536 ≡ n % 256 + 256 * (n / 256 % 256) = omega (arith, rest) in
    let low : n % 65536 % 256 ≡ n % 256 = omega (arith, whole) in
    let high : n % 65536 / 256 ≡ n / 256 % 256 = omega (arith, whole) in
    let same : n / 256 % 256 % 256 ≡ n / 256 % 256 = omega arith in
    rw (low, high, same, rest)

-- the four bytes of a number of 32 bits, as std has them
pub four_bytes : (n : ℕ) → to_le_bytes w32 n ≡ u32_bytes n
unfolding bytes_of
four_bytes n =
    let third : n / 65536 ≡ n / 256 / 256 = omega arith in
    let fourth : n / 16777216 ≡ n / 256 / 256 / 256 = omega arith in
    rw (third, fourth)

-- ---- bytes put into a buffer
module _ (buffer : List ℕ) (at : ℕ) where
  pub length-put_at : (bytes : List ℕ) → at + length bytes ≤ length buffer → length (put_at buffer at bytes) ≡ length buffer
  unfolding put_at
  length-put_at bytes fits = simp (length-append, length-take, length-drop) (omega arith)

  pub put_at_none : put_at buffer at [] ≡ buffer
  unfolding put_at
  put_at_none = rw add-zero (take-append-drop at buffer)

  -- one entry, as a store
  pub put_at_one : (v : ℕ) → at < length buffer → set buffer at v ≡ put_at buffer at (v ∷ [])
  unfolding put_at
  put_at_one v fits = sets-eq (v ∷ []) buffer at (omega arith) ∙ append_assoc (take at buffer) (v ∷ []) (drop (at + 1) buffer)

  -- copied over a part of as many entries
  pub part_put : {n : ℕ} {copy bytes : List ℕ} → copy ≡ bytes → n ≡ length bytes → put_mid at n buffer copy ≡ put_at buffer at bytes
  unfolding put_at
  part_put is same = rw (is, drop-drop, same)

  -- what is put after what was put
  pub put_at_more : (xs ys : List ℕ) → at + length xs + length ys ≤ length buffer
      → put_at (put_at buffer at xs) (at + length xs) ys ≡ put_at buffer at (xs ++ ys)
  unfolding put_at
  put_at_more xs ys fits =
      let whole : put_at buffer at xs ≡ P ++ D = sym (append_assoc (take at buffer) xs D) in
      let front : take (at + length xs) (P ++ D) ≡ P = take_at P D (at + length xs) seam in
      let back : drop (at + length xs + length ys) (P ++ D) ≡ drop (at + length (xs ++ ys)) buffer =
      ap (λ (i : ℕ). drop (i + length ys) (P ++ D)) (sym seam) ∙ drop-append-add P D (length ys) ∙ drop-drop (length ys) (at + length xs) buffer
      ∙ ap (λ (i : ℕ). drop i buffer) places
      in
      ap (λ (b : List ℕ). take (at + length xs) b ++ (ys ++ drop (at + length xs + length ys) b)) whole
      ∙ ap (λ (b : List ℕ). b ++ (ys ++ drop (at + length xs + length ys) (P ++ D))) front
      ∙ ap (λ (b : List ℕ). P ++ (ys ++ b)) back
      ∙ append_assoc (take at buffer) xs (ys ++ drop (at + length (xs ++ ys)) buffer)
      ∙ ap (λ (b : List ℕ). take at buffer ++ b) (sym (append_assoc xs ys (drop (at + length (xs ++ ys)) buffer)))
    where
      P : List ℕ
      P = take at buffer ++ xs

      D : List ℕ
      D = drop (at + length xs) buffer

      places : at + length xs + length ys ≡ at + length (xs ++ ys)
      places = omega (arith, length-append xs ys)

      seam : length P ≡ at + length xs
      seam = length-append (take at buffer) xs ∙ ap (λ (i : ℕ). i + length xs) (length-take-le at buffer (omega arith))

-- ---- numbers written, then read
-- what stands in front is passed over
pub later-number : (w : ℕ) (front rest : List ℕ) (at : ℕ) → number_at w (front ++ rest) (length front + at) ≡ number_at w rest at
later-number w front rest at =
    sym (number_at-drop w (length front) (front ++ rest) at) ∙ ap (λ (l : List ℕ). number_at w l at) (drop-append_seam front rest)

bytes_value : (w n : ℕ) (more : List ℕ) → n < 256 ^ w → number_at w (bytes_of w n ++ more) 0 ≡ n
unfolding number_at bytes_of
bytes_value zero n more h = omega arith
bytes_value (suc w) n more h =
    let later : number_at w (n % 256 ∷ (bytes_of w (n / 256) ++ more)) (0 + 1) ≡ number_at w (bytes_of w (n / 256) ++ more) 0 =
    later-number w (n % 256 ∷ []) (bytes_of w (n / 256) ++ more) 0 in
    let rest = bytes_value w (n / 256) more (omega (arith, h, pow-succ' 256 w)) in
    omega (arith, later, rest)

-- entry k of the numbers stands at byte w × k
pub number_at-all : (w : ℕ) (ns more : List ℕ) (k : ℕ) → k < length ns → get_or ns k 0 < 256 ^ w
    → number_at w (bytes_of_all w ns ++ more) (w * k) ≡ get_or ns k 0
unfolding bytes_of_all
number_at-all w [] more k h b = absurd (not-suc-le-zero h)
number_at-all w (n ∷ rest) more zero h b =
    ap (number_at w ((bytes_of w n ++ bytes_of_all w rest) ++ more)) (mul-zero w)
    ∙ ap (λ (l : List ℕ). number_at w l 0) (append_assoc (bytes_of w n) (bytes_of_all w rest) more) ∙ bytes_value w n (bytes_of_all w rest ++ more) b
number_at-all w (n ∷ rest) more (suc k) h b =
    let place : w * suc k ≡ length (bytes_of w n) + w * k = omega (arith, mul-suc w k, length_bytes w n) in
    ap (number_at w ((bytes_of w n ++ bytes_of_all w rest) ++ more)) place
    ∙ ap (λ (l : List ℕ). number_at w l (length (bytes_of w n) + w * k)) (append_assoc (bytes_of w n) (bytes_of_all w rest) more)
    ∙ later-number w (bytes_of w n) (bytes_of_all w rest ++ more) (w * k) ∙ number_at-all w rest more k (le_of_suc-le-suc h) b

pub u16_at-u16s : (ns more : List ℕ) (k : ℕ) → k < length ns → get_or ns k 0 < 65536 → u16_at (u16s ns ++ more) (2 * k) ≡ get_or ns k 0
u16_at-u16s = number_at-all 2
