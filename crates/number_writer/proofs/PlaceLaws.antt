-- Bytes put at two places of one buffer, and at one place twice.
--     put_at_apart         places apart from each other: either may be first
--     both_more           two arrays that grow side by side
--     number-set          one number of an array, put anew
--     part_there, part_anew    a part that was put, as it is lent, and with something else in it
-- Assumes nothing.
use mathlib.Core.List.{List, [], ◌∷◌, ◌++◌}
use mathlib.Core.Path.{◌≡◌, refl, sym, ap, ap₂, ◌∙◌}
use Prim.Native.Nat.{ℕ, zero, suc, ◌+◌, ◌*◌, ◌≤◌, ◌<◌}
use native.Mathlib.Nat.{mul-suc, mul-zero, suc-add, zero-add}
use native.Mathlib.Omega.{arith}
use lib.ListN.{length, set, take, drop, length-append}
use lib.Seq.{drop_at, length-take-le, take_at}
use Rattle.tables.proofs.NumberLaws.{length_bytes, length-put_at, put_at_more, put_at_none}
use Rattle.tables.specs.Numbers.{bytes_of, bytes_of_all, put_at}

-- ---- one entry further on
put_later : (x : ℕ) (b ys : List ℕ) (i : ℕ) → put_at (x ∷ b) (suc i) ys ≡ x ∷ put_at b i ys
unfolding put_at
put_later x b ys i = ap (λ (n : ℕ). x ∷ (take i b ++ (ys ++ drop n (x ∷ b)))) (suc-add i (length ys))

put_first : (c : ℕ) (b : List ℕ) (x : ℕ) (xs : List ℕ) → put_at (c ∷ b) 0 (x ∷ xs) ≡ x ∷ put_at b 0 xs
unfolding put_at
put_first c b x xs =
    ap (λ (n : ℕ). x ∷ (xs ++ drop n (c ∷ b))) (zero-add (suc (length xs))) ∙ ap (λ (n : ℕ). x ∷ (xs ++ drop n b)) (sym (zero-add (length xs)))

-- ---- places apart
apart_front : (b xs ys : List ℕ) (j : ℕ) → length xs ≤ j → j + length ys ≤ length b → put_at (put_at b 0 xs) j ys ≡ put_at (put_at b j ys) 0 xs
apart_front b [] ys j h g = ap (λ (l : List ℕ). put_at l j ys) (put_at_none b 0) ∙ sym (put_at_none (put_at b j ys) 0)
apart_front [] (x ∷ xs) ys j h g = absurd (omega arith)
apart_front (c ∷ b) (x ∷ xs) ys zero h g = absurd (omega arith)
apart_front (c ∷ b) (x ∷ xs) ys (suc j) h g =
    ap (λ (l : List ℕ). put_at l (suc j) ys) (put_first c b x xs) ∙ put_later x (put_at b 0 xs) ys j
    ∙ ap (λ (l : List ℕ). x ∷ l) (apart_front b xs ys j (omega arith) (omega arith))
    ∙ sym (put_first c (put_at b j ys) x xs) ∙ ap (λ (l : List ℕ). put_at l 0 (x ∷ xs)) (sym (put_later c b ys j))

pub put_at_apart : (b xs ys : List ℕ) (i j : ℕ) → i + length xs ≤ j → j + length ys ≤ length b
    → put_at (put_at b i xs) j ys ≡ put_at (put_at b j ys) i xs
put_at_apart b xs ys zero j h g = apart_front b xs ys j (omega arith) g
put_at_apart [] xs ys (suc i) j h g = absurd (omega arith)
put_at_apart (c ∷ b) xs ys (suc i) zero h g = absurd (omega arith)
put_at_apart (c ∷ b) xs ys (suc i) (suc j) h g =
    ap (λ (l : List ℕ). put_at l (suc j) ys) (put_later c b xs i) ∙ put_later c (put_at b i xs) ys j
    ∙ ap (λ (l : List ℕ). c ∷ l) (put_at_apart b xs ys i j (omega arith) (omega arith))
    ∙ sym (put_later c (put_at b j ys) xs i) ∙ ap (λ (l : List ℕ). put_at l (suc i) xs) (sym (put_later c b ys j))

-- ---- two arrays that grow side by side
pub both_more : (b xs ys x y : List ℕ) (near far : ℕ) → near + length xs + length x ≤ far → far + length ys + length y ≤ length b
    → put_at (put_at (put_at (put_at b near xs) far ys) (near + length xs) x) (far + length ys) y ≡ put_at (put_at b near (xs ++ x)) far (ys ++ y)
both_more b xs ys x y near far h g =
    let long : length (put_at b near xs) ≡ length b = length-put_at b near xs (omega arith) in
    ap (λ (l : List ℕ). put_at l (far + length ys) y)
    (sym (put_at_apart (put_at b near xs) x ys (near + length xs) far h (omega (arith, long)))
    ∙ ap (λ (l : List ℕ). put_at l far ys) (put_at_more b near xs x (omega arith)))
    ∙ put_at_more (put_at b near (xs ++ x)) far ys y (omega (arith, length-put_at b near (xs ++ x) (omega (arith, length-append xs x))))

-- ---- one number of an array
-- in front of other bytes, and behind them
front_again : (xs rest ys : List ℕ) → length ys ≡ length xs → put_at (xs ++ rest) 0 ys ≡ ys ++ rest
front_again [] rest [] e = put_at_none rest 0
front_again [] rest (y ∷ ys) e = absurd (omega arith)
front_again (x ∷ xs) rest [] e = absurd (omega arith)
front_again (x ∷ xs) rest (y ∷ ys) e =
    put_first x (xs ++ rest) y ys ∙ ap (λ (l : List ℕ). y ∷ l) (front_again xs rest ys (omega arith))

behind : (xs rest ys : List ℕ) (i : ℕ) → put_at (xs ++ rest) (length xs + i) ys ≡ xs ++ put_at rest i ys
behind [] rest ys i = ap (λ (k : ℕ). put_at rest k ys) (zero-add i)
behind (x ∷ xs) rest ys i =
    ap (λ (k : ℕ). put_at (x ∷ (xs ++ rest)) k ys) (suc-add (length xs) i) ∙ put_later x (xs ++ rest) ys (length xs + i)
    ∙ ap (λ (l : List ℕ). x ∷ l) (behind xs rest ys i)

module _ (w : ℕ) where
  pub number-set : (ns : List ℕ) (i v : ℕ) → i < length ns → put_at (bytes_of_all w ns) (w * i) (bytes_of w v) ≡ bytes_of_all w (set ns i v)
  unfolding bytes_of_all
  number-set [] i v h = absurd (omega arith)
  number-set (n ∷ ns) zero v h =
      ap (λ (k : ℕ). put_at (bytes_of w n ++ bytes_of_all w ns) k (bytes_of w v)) (mul-zero w)
      ∙ front_again (bytes_of w n) (bytes_of_all w ns) (bytes_of w v) (length_bytes w v ∙ sym (length_bytes w n))
  number-set (n ∷ ns) (suc i) v h =
      let place : w * suc i ≡ length (bytes_of w n) + w * i = omega (arith, mul-suc w i, length_bytes w n) in
      ap (λ (k : ℕ). put_at (bytes_of w n ++ bytes_of_all w ns) k (bytes_of w v)) place ∙ behind (bytes_of w n) (bytes_of_all w ns) (bytes_of w v) (w * i)
      ∙ ap (λ (l : List ℕ). bytes_of w n ++ l) (number-set ns i v (omega arith))

-- ---- a part that was put, lent from its place on
module _ (b xs : List ℕ) (at : ℕ) (fits : at + length xs ≤ length b) where
  from_place : drop at (put_at b at xs) ≡ xs ++ drop (at + length xs) b
  unfolding put_at
  from_place = drop_at (take at b) _ at (length-take-le at b (omega arith))

  pub part_there : take (length xs) (drop at (put_at b at xs)) ≡ xs
  part_there = ap (take (length xs)) from_place ∙ take_at xs (drop (at + length xs) b) (length xs) refl

  pub part_anew : (ys : List ℕ) → length ys ≡ length xs
      → take at (put_at b at xs) ++ (ys ++ drop (length xs) (drop at (put_at b at xs))) ≡ put_at b at ys
  unfolding put_at
  part_anew ys same =
      ap₂ (λ (x y : List ℕ). x ++ (ys ++ y)) (take_at (take at b) (xs ++ drop (at + length xs) b) at (length-take-le at b (omega arith)))
      (ap (drop (length xs)) from_place ∙ drop_at xs (drop (at + length xs) b) (length xs) refl)
      ∙ ap (λ (n : ℕ). take at b ++ (ys ++ drop (at + n) b)) (sym same)
