-- `RunTable::sends` meets its contract: M sends from their place on.
use Rattle.std.proofs.Common.{arith}
use Rattle.tables.proofs.ReadLaws.{messages_few, processes_few, sends_taken, whole}
use Rattle.tables.proofs.parts.RunTable.sends.Goals as goal

pub sends_at-start-requires : goal.sends_at-start-requires
sends_at-start-requires c = omega (arith, processes_few _ c.args.self.accepted)

pub receipts_at-end-requires : goal.receipts_at-end-requires
receipts_at-end-requires c = omega (arith, processes_few _ c.args.self.accepted, messages_few _ c.args.self.accepted)

pub slice_bounds-result-end : goal.slice_bounds-result-end
slice_bounds-result-end c = omega (arith, whole _ c.args.self.accepted)

pub returns : goal.returns
returns c = sends_taken _ c.args.self.accepted c.process_count-n.ensures c.message_count.ensures c.sends_at-start.ensures c.receipts_at-end.ensures
