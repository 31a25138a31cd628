-- `RunTable::receipts` meets its contract: the rest of the table, from their place on.
use Rattle.std.proofs.Common.{arith}
use Rattle.tables.proofs.ReadLaws.{messages_few, processes_few, receipts_taken, whole}
use Rattle.tables.proofs.parts.RunTable.receipts.Goals as goal

pub receipts_at-start-requires : goal.receipts_at-start-requires
receipts_at-start-requires c = omega (arith, processes_few _ c.args.self.accepted, messages_few _ c.args.self.accepted)

pub slice_bounds-result-count : goal.slice_bounds-result-count
slice_bounds-result-count c = omega (arith, whole _ c.args.self.accepted)

pub slice_bounds-result-start : goal.slice_bounds-result-start
slice_bounds-result-start c = omega (arith, whole _ c.args.self.accepted)

pub returns : goal.returns
returns c = receipts_taken _ c.args.self.accepted c.process_count.ensures c.message_count.ensures c.receipts_at-start.ensures
