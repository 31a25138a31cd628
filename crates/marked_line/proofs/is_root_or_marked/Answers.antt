-- `is_root_or_marked` meets its contract: the process has a root.
use native.Mathlib.Omega.{arith}
use Rattle.tables.proofs.ReadLaws.{processes_few}
use Rattle.marked_line.proofs.is_root_or_marked.Goals as goal

pub bounds-roots-p : goal.bounds-roots-p
bounds-roots-p c = omega (arith, processes_few _ c.args.layout.now.table.accepted, c.requires.known, c.requires.lent.for_each)

pub offset_bounds-roots-p : goal.offset_bounds-roots-p
offset_bounds-roots-p c = omega (arith, processes_few _ c.args.layout.now.table.accepted, c.requires.known)
