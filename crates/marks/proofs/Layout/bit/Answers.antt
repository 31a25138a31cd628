-- `Layout::bit` meets its contract: the array has the first bits of the processes.
use native.Mathlib.Omega.{arith}
use Prim.Native.Nat.{◌≤◌}
use Rattle.marks.proofs.LayoutLaws.{bit_small, few, first_read}
use Rattle.marks.proofs.Layout.bit.Goals as goal
use Rattle.marks.proofs.Layout.bit.Goals.{Start}

there : (c : Start) → c.args.p ≤ 32
there c = few _ c.args.self.now.table.accepted (omega (arith, c.requires.known))

pub offset_bounds-self-p : goal.offset_bounds-self-p
offset_bounds-self-p c = omega (arith, there (goal.at.offset_bounds-self-p c).Start)

pub bounds-self-p : goal.bounds-self-p
bounds-self-p c = omega (arith, there (goal.at.bounds-self-p c).Start)

pub overflow_add-result : goal.overflow_add-result
overflow_add-result c = omega (arith, bit_small _ c.args.self.now.table.accepted c.args.self.now.first_are c.requires.known c.requires.there)

pub returns : goal.returns
returns c = omega (arith, first_read _ c.args.self.now.table.accepted c.args.self.now.first_are {p = c.args.p} (omega (arith, c.requires.known)))
