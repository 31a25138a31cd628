-- Checkpoints that a caller names, in two parallel lists of processes and of their checkpoints' numbers
-- (docs/MANUAL.md, "Checkpoints that stand together"). Assumes nothing.
use Rattle.std.specs.Prelude.{Bool, List, ◌≡◌, ℕ, ◌<◌, leb, get_or, length}
use Rattle.tables.specs.Lists.{any_below}
use Rattle.tables.specs.Table.{Table, count_of, process_count}
use Rattle.zigzag.specs.Paths.{Zigzag}

-- Check 21, in part: one of the processes is N or above.
unfoldable pub unknown_named : Table → List ℕ → Bool
unknown_named t processes = any_below (length processes) (λ k. leb (process_count t) (get_or processes k 0))

-- Check 22: a number is not below the count of the process beside it.
unfoldable pub not_below_counts : Table → List ℕ → List ℕ → Bool
not_below_counts t processes states =
    any_below (length processes) (λ k. leb (count_of t (get_or processes k 0)) (get_or states k 0))

-- Names of a run: a number for each process that is named, no process twice, and each number that of one of its
-- checkpoints. What checks 20, 21 and 22 let through is such names, with the processes rising.
pub record Names (t : Table) (processes states : List ℕ) : Type 0 where
  pub for_each : length states ≡ length processes
  pub known : (k : ℕ) → k < length processes → get_or processes k 0 < process_count t
  pub different : (k l : ℕ) → k < l → l < length processes → get_or processes k 0 ≡ get_or processes l 0
      → ⊥
  pub saved : (k : ℕ) → k < length processes → get_or states k 0 < count_of t (get_or processes k 0)

-- Checkpoint c of process p is named.
pub record Named (processes states : List ℕ) (p c : ℕ) : Type 0 where
  pub place : ℕ
  pub there : place < length processes
  pub process_is : get_or processes place 0 ≡ p
  pub state_is : get_or states place 0 ≡ c

-- A zigzag path leads from one of the named checkpoints, C_{p,i}, to another of them or to itself, C_{q,j}.
pub record NamedZigzag (t : Table) (processes states : List ℕ) : Type 0 where
  pub p : ℕ
  pub i : ℕ
  pub q : ℕ
  pub j : ℕ
  pub from_named : Named processes states p i
  pub to_named : Named processes states q j
  pub path : Zigzag t p i q j
