-- The loop of `RunTable::count_array`: the first p entries are the table's counts, the others 0 (`Filling`).
use Rattle.std.proofs.Common.{get_or}
use Rattle.tables.proofs.ArrayLaws.{Filling}
use Rattle.tables.proofs.ReadLaws.{ReadCounts}
use Rattle.tables.specs.Format.{decode}
use Rattle.tables.proofs.parts.RunTable.count_array.Given as goal

abbrev pub invariant-loop-p : goal.invariant-loop-p
invariant-loop-p l = record {
  read : ReadCounts l.self.bytes.now l.n l.part;
  filling : Filling (λ q. get_or (decode l.self.bytes.now).counts q 0) l.n l.p l.counts;
}
