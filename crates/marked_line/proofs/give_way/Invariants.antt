-- `give_way` meets its contract. The invariant: each process below p has its latest unmarked state (`Giving`).
use Rattle.marked_line.proofs.RootLaws.{Giving}
use Rattle.tables.specs.Format.{decode}
use Rattle.marked_line.proofs.give_way.Given as goal

abbrev pub invariant-loop-p : goal.invariant-loop-p
invariant-loop-p l = Giving (decode l.layout.table.bytes.now) l.roots l.marks l.next l.n l.p
