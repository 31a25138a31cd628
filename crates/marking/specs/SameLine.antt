-- What is claimed of the marking procedure (docs/MANUAL.md, "The same line by marking"): it can be carried out, it
-- comes to an end, and it ends with the line that the other calls find. Assumes nothing.
use Rattle.std.specs.Prelude.{true, List, ◌⊎◌, ◌≡◌, ℕ, ◌≤◌}
use Rattle.checkpoint_graph.specs.Graph.{State}
use Rattle.consistency.specs.Lines.{Latest, as_line}
use Rattle.consistency.specs.Lowering.{line_under}
use Rattle.marking.specs.Procedure.{After, EndsWith, NoneMarked, Round, Rounds, Stage, Starts}
use Rattle.tables.specs.Lists.{sum}
use Rattle.tables.specs.Table.{Table}

-- It can start; whatever it has after some rounds, no root is marked or another round can follow; and there are no more
-- rounds than the sum of the ceilings. So it always ends. What is marked stays marked in all later rounds. However it
-- went, its last roots are the latest consistent line under the ceilings, which is the one that is computed by
-- lowering, number by number. This is claimed of every well formed table and every ceiling of it.
pub record SameLine (t : Table) (ceilings : List ℕ) : Type 0 where
  pub starts : (s : Stage) × Starts t ceilings s
  pub goes_on : (n : ℕ) (s : Stage) → After t ceilings n s → NoneMarked t s ⊎ ((s' : Stage) × Round t s s')
  pub finitely : (n : ℕ) (s : Stage) → After t ceilings n s → n ≤ sum ceilings
  pub marks_stay : (n : ℕ) (s s' : Stage) → Rounds t n s s' → (x : State)
      → s.marks x ≡ true → s'.marks x ≡ true
  pub ends : (roots : List ℕ) × EndsWith t ceilings roots
  pub latest : (roots : List ℕ) → EndsWith t ceilings roots
      → Latest t.messages (as_line ceilings) (as_line roots)
  pub same : (roots : List ℕ) → EndsWith t ceilings roots → roots ≡ line_under t.messages ceilings
