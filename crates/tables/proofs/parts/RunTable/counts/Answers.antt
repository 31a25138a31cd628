-- `RunTable::counts` meets its contract: N counts from their place on.
use Rattle.std.proofs.Common.{arith}
use Rattle.tables.proofs.ReadLaws.{counts_taken, processes_few, whole}
use Rattle.tables.proofs.parts.RunTable.counts.Goals as goal

pub sends_at-end-requires : goal.sends_at-end-requires
sends_at-end-requires c = omega (arith, processes_few _ c.args.self.accepted)

pub slice_bounds-result-end : goal.slice_bounds-result-end
slice_bounds-result-end c = omega (arith, whole _ c.args.self.accepted)

pub returns : goal.returns
returns c = counts_taken _ c.args.self.accepted c.process_count.ensures c.sends_at-end.ensures
