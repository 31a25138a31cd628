-- The marking procedure on the checkpoint graph (docs/MANUAL.md, "The same line by marking"; Figure 3 of the source),
-- from the graph alone. A round is a relation between what stands before it and after it. Assumes nothing.
use Rattle.std.specs.Prelude.{Bool, false, true, List, ◌⊎◌, ◌≡◌, ℕ, zero, suc, ◌≤◌, ◌<◌, get_or}
use Rattle.std.specs.Prelude.{length}
use Rattle.checkpoint_graph.specs.Graph.{Leads, State, state}
use Rattle.tables.specs.Table.{Table, count_of, process_count}

-- Which states are marked.
abbrev pub Marks : Type 0
Marks = State → Bool

-- The state of process p that is in the root set: the set has one of each process, and is written as their numbers.
abbrev pub root : List ℕ → ℕ → State
root roots p = state p (get_or roots p 0)

-- A state is strictly reachable from the root set: some root leads to it.
pub record Reachable (t : Table) (roots : List ℕ) (s : State) : Type 0 where
  pub from : ℕ
  pub known : from < process_count t
  pub leads : Leads t (root roots from) s

-- 'Mark all that is strictly reachable from the root set': what was marked stays so, what is reachable becomes so, and
-- nothing else is.
pub record MarksReachable (t : Table) (roots : List ℕ) (before after : Marks) : Type 0 where
  pub stay : (s : State) → before s ≡ true → after s ≡ true
  pub reached : (s : State) → Reachable t roots s → after s ≡ true
  pub no_others : (s : State) → after s ≡ true → (before s ≡ true) ⊎ Reachable t roots s

-- What the procedure has at a time: its root set and its marks.
pub record Stage : Type 0 where
  pub roots : List ℕ
  pub marks : Marks

-- Its start: the root set is at the ceilings; initially nothing is marked, and then all that is strictly reachable.
pub record Starts (t : Table) (ceilings : List ℕ) (s : Stage) : Type 0 where
  pub at_ceilings : s.roots ≡ ceilings
  pub marking : MarksReachable t s.roots (λ _. false) s.marks

-- No root is marked.
unfoldable pub NoneMarked : Table → Stage → Type 0
NoneMarked t s = (p : ℕ) → p < process_count t → s.marks (root s.roots p) ≡ false

-- State y is the latest unmarked one of process p.
pub record LatestUnmarked (t : Table) (marks : Marks) (p y : ℕ) : Type 0 where
  pub there : y ≤ count_of t p
  pub unmarked : marks (state p y) ≡ false
  pub later : (y' : ℕ) → y < y' → y' ≤ count_of t p → marks (state p y') ≡ true

-- A round, while some root is marked: each marked root gives way to the latest unmarked state of its process, the other
-- roots stay, and then all that is strictly reachable from the new root set is marked.
pub record Round (t : Table) (s s' : Stage) : Type 0 where
  pub some_marked : (p : ℕ) × (p < process_count t) × (s.marks (root s.roots p) ≡ true)
  pub for_each : length s'.roots ≡ length s.roots
  pub gives_way : (p : ℕ) → p < process_count t → s.marks (root s.roots p) ≡ true
      → LatestUnmarked t s.marks p (get_or s'.roots p 0)
  pub stays : (p : ℕ) → p < process_count t → s.marks (root s.roots p) ≡ false
      → get_or s'.roots p 0 ≡ get_or s.roots p 0
  pub marking : MarksReachable t s'.roots s.marks s'.marks

-- What the procedure may have after n rounds.
unfoldable pub After : Table → List ℕ → ℕ → Stage → Type 0
After t ceilings zero s = Starts t ceilings s
After t ceilings (suc n) s' = (s : Stage) × After t ceilings n s × Round t s s'

-- So many rounds, one after another, lead from one stage to another.
unfoldable pub Rounds : Table → ℕ → Stage → Stage → Type 0
Rounds t zero s s' = s ≡ s'
Rounds t (suc n) s s'' = (s' : Stage) × Round t s s' × Rounds t n s' s''

-- The procedure ends, where no root is marked, with these as its last roots.
pub record EndsWith (t : Table) (ceilings roots : List ℕ) : Type 0 where
  pub rounds : ℕ
  pub last : Stage
  pub after : After t ceilings rounds last
  pub none_marked : NoneMarked t last
  pub last_roots : last.roots ≡ roots
