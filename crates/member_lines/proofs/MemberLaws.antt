-- The minimum of the members' lines, as the loop finds it.
--     Minimizing                                   the minimum over the members so far: the invariant
--     minimizing_none, minimizing_other, minimizing_member    how it begins and goes on
-- Assumes nothing.
use mathlib.Core.Bool.{Bool, true, false, cond}
use mathlib.Core.List.{List}
use mathlib.Core.Path.{◌≡◌, refl, sym, ap₂, ◌∙◌}
use Prim.Native.Nat.{ℕ, ◌+◌, ◌*◌, ◌<◌, min}
use native.Mathlib.Nat.{mul-le-mul_left, mul-suc}
use native.Mathlib.Numerals.{add-one}
use native.Mathlib.Omega.{arith}
use lib.ListN.{length, get_or, take, drop, length-drop}
use lib.Seq.{get_or-drop, get_or-take, length-take-le}
use Rattle.consistency.specs.Ceilings.{smallest}
use Rattle.consistency.specs.Lines.{as_line}
use Rattle.holder_lines.specs.Held.{line_held}
use Rattle.holder_lines.specs.Scratch.{lines_in}
use Rattle.holder_lines.specs.declared.scratch.HeldLines.{HeldLines}
use Rattle.process_set.specs.Sets.{member}
use Rattle.tables.specs.Arrays.{Filled}

-- At the n processes a line has the minimum of the counts and of the members' lines below k, and beyond them it is the counts.
pub record Minimizing (lines : HeldLines) (counts : List ℕ) (set : ℕ) (line : List ℕ) (k : ℕ) : Type 0 where
  pub minimum : Filled (smallest k (member set) (line_held lines) (as_line counts)) lines.n counts line

module _ {lines : HeldLines} {counts : List ℕ} {set : ℕ} where
  pub minimizing_none : Minimizing lines counts set counts 0
  unfolding smallest
  minimizing_none = record { minimum = record { same_length = refl; front = λ i _ _. refl; rest = λ i _. refl } }

  module _ {line : List ℕ} {k : ℕ} (w : Minimizing lines counts set line k) where
    -- one process more, by whether it is a member
    one_more : (p : ℕ) (b : Bool) → member set k ≡ b
        → smallest (k + 1) (member set) (line_held lines) (as_line counts) p
        ≡ cond b (min (line_held lines k p) (smallest k (member set) (line_held lines) (as_line counts) p))
        (smallest k (member set) (line_held lines) (as_line counts) p)
    unfolding smallest
    one_more p b e = rw (add-one k) (rw e)

    pub minimizing_other : member set k ≡ false → Minimizing lines counts set line (k + 1)
    minimizing_other e = record {
      minimum = record {
        same_length = w.minimum.same_length;
        front = λ i b inside. w.minimum.front i b inside ∙ sym (one_more i false e);
        rest = w.minimum.rest;
      };
    }

    -- the line of member k, as a slice of the scratch
    module _ (l : k < lines.n) where
      abbrev row : List ℕ
      row = take lines.n (drop (lines.n * k) lines.numbers.now)

      row_length : length row ≡ lines.n
      row_length =
          length-take-le lines.n (drop (lines.n * k) lines.numbers.now)
          (omega (arith, length-drop (lines.n * k) lines.numbers.now, lines.holds.room, mul-suc lines.n k, mul-le-mul_left lines.n l))

      number : (i : ℕ) → i < lines.n → get_or row i 0 ≡ line_held lines k i
      unfolding lines_in
      number i b = get_or-take lines.n (drop (lines.n * k) lines.numbers.now) i 0 b ∙ get_or-drop (lines.n * k) lines.numbers.now i 0

      pub minimizing_member : member set k ≡ true → {later : List ℕ} → Filled (λ j. min (get_or row j 0) (get_or line j 0)) (length row) line later
          → Minimizing lines counts set later (k + 1)
      minimizing_member e lower = record {
        minimum = record {
          same_length = lower.same_length ∙ w.minimum.same_length;
          front = λ i b inside.
              lower.front i (omega (arith, row_length)) (omega (arith, w.minimum.same_length))
              ∙ ap₂ min (number i b) (w.minimum.front i b inside) ∙ sym (one_more i true e);
          rest = λ i b. lower.rest i (omega (arith, row_length)) ∙ w.minimum.rest i b;
        };
      }
