-- Named checkpoints that stand together (docs/MANUAL.md, "Checkpoints that stand together"): the lines that have them
-- all, the latest of these, and what is claimed of it (Theorem 1 of the source). Assumes nothing.
use Rattle.std.specs.Prelude.{Bool, not, true, List, ◌↔◌, ◌≡◌, ℕ, zero, suc, eqb, get_or, length, set}
use Rattle.consistency.specs.Lines.{AtOrBelow, Consistent, Line, as_line}
use Rattle.consistency.specs.Lowering.{line_under}
use Rattle.tables.specs.Lists.{any_below}
use Rattle.tables.specs.Table.{Table, count_of}
use Rattle.zigzag.specs.Names.{Named, NamedZigzag}

-- The named checkpoints stand together on a line: it is consistent and has each of them. The other processes stand
-- anywhere up to their virtual checkpoints, numbered count.
pub record StandOn (t : Table) (processes states : List ℕ) (l : Line) : Type 0 where
  pub within : AtOrBelow l (count_of t)
  pub consistent : Consistent t.messages l
  pub has : (p c : ℕ) → Named processes states p c → l p ≡ c

-- The first n named numbers, each in the place of its process.
unfoldable pub put_named : ℕ → List ℕ → List ℕ → List ℕ → List ℕ
put_named zero processes states l = l
put_named (suc n) processes states l = set (put_named n processes states l) (get_or processes n 0) (get_or states n 0)

-- Their ceiling: a named process stands at no later than its named checkpoint, any other at no later than its count.
unfoldable pub named_ceiling : Table → List ℕ → List ℕ → List ℕ
named_ceiling t processes states = put_named (length processes) processes states t.counts

-- The latest consistent line under that ceiling.
unfoldable pub named_line : Table → List ℕ → List ℕ → List ℕ
named_line t processes states = line_under t.messages (named_ceiling t processes states)

-- A line misses one of the named checkpoints: it has another number at its process.
unfoldable pub misses : List ℕ → List ℕ → List ℕ → Bool
misses processes states l =
    any_below (length processes) (λ k. not (eqb (as_line l (get_or processes k 0)) (get_or states k 0)))

-- The named checkpoints stand together on some line exactly where no zigzag path leads from one of them to another or
-- to itself. Then they do so on the latest line under their ceiling, and on no later one; and else it is this line that
-- tells, by missing one of them. This is claimed of every well formed table and all names of it.
pub record Together (t : Table) (processes states : List ℕ) : Type 0 where
  pub theorem : ((l : Line) × StandOn t processes states l) ↔ (NamedZigzag t processes states → ⊥)
  pub stands : (NamedZigzag t processes states → ⊥)
      → StandOn t processes states (as_line (named_line t processes states))
  pub latest : (l : Line) → StandOn t processes states l → AtOrBelow l (as_line (named_line t processes states))
  pub told : (misses processes states (named_line t processes states) ≡ true) ↔ NamedZigzag t processes states
