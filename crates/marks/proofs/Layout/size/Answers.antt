-- `Layout::size` meets its contract: behind the last process stands the number of all bits.
use native.Mathlib.Omega.{arith}
use Prim.Native.Nat.{◌≤◌}
use Rattle.marks.proofs.LayoutLaws.{few, size_is}
use Rattle.marks.proofs.Layout.size.Goals as goal
use Rattle.marks.proofs.Layout.size.Goals.{After-process_count-n}

-- behind the last process the array has an entry
there : (c : After-process_count-n) → c.process_count-n.result ≤ 32
there c = few _ c.args.self.now.table.accepted (omega (arith, c.process_count-n.ensures))

pub offset_bounds-self-n : goal.offset_bounds-self-n
offset_bounds-self-n c = omega (arith, there c)

pub bounds-self-n : goal.bounds-self-n
bounds-self-n c = omega (arith, there (goal.at.bounds-self-n c).After-process_count-n)

pub returns : goal.returns
returns c = omega (arith, size_is _ c.args.self.now.table.accepted c.args.self.now.first_are c.process_count-n.ensures)
