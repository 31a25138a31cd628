-- What a read adds to what was read.
--     front_put      the front of a buffer, once bytes are put behind what stands there
--     lost_more      what an input has lost, once it has lost more
-- Assumes nothing.
use Rattle.std.proofs.Common.{◌≡◌, ◌∙◌, ap, sym, ℕ, ◌+◌, ◌≤◌, arith}
use Rattle.std.proofs.Common.{List, ◌++◌, append_assoc, drop, drop_at, length, length-take-le, take}
use Rattle.std.proofs.lemmas.Slice.{take-put_mid_below}
use Rattle.std.specs.Io.KnownBytes.{Consumes}
use Rattle.std.specs.Prelude.{Option, None, Some}
use borrow.Rule.Slice.PartMut.{post_of, put_mid}
use lib.Seq.{take-add, take-append-le}

pub front_put : (a k n : ℕ) (xs ys : List ℕ) → a ≤ length xs → n ≤ length ys → take (a + n) (put_mid a k xs ys) ≡ take a xs ++ take n ys
front_put a k n xs ys within fits =
    let before : take a (put_mid a k xs ys) ≡ take a xs = take-put_mid_below a k xs ys a (omega arith) within in
    let behind = drop_at (take a xs) (ys ++ post_of a k xs) a (length-take-le a xs within) in
    take-add a n (put_mid a k xs ys) ∙ ap (λ l. l ++ take n (drop a (put_mid a k xs ys))) before
    ∙ ap (λ l. take a xs ++ take n l) behind ∙ ap (λ l. take a xs ++ l) (take-append-le n ys (post_of a k xs) fits)

pub lost_more : (old mid new : Option (List ℕ)) (front part : List ℕ) → Consumes old mid front → Consumes mid new part
    → Consumes old new (front ++ part)
lost_more None mid new front part first second = tt
lost_more (Some xs) None new front part first second = absurd first
lost_more (Some xs) (Some ys) None front part first second = absurd second
lost_more (Some xs) (Some ys) (Some zs) front part first second = first ∙ ap (λ l. front ++ l) second ∙ sym (append_assoc front part zs)
