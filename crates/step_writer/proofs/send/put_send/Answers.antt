-- `send::put_send` meets its contract: the head, and the two arrays with an entry more.
-- Assumes nothing.
use native.Mathlib.Omega.{arith}
use mathlib.Core.Path.{refl, sym, ap}
use lib.ListN.{length}
use lib.Seq.{length-take-le}
use Rattle.tables.proofs.ReadLaws.{messages_few, messages_read, processes_few, receipts_size, sends_size}
use Rattle.step_writer.proofs.SendLaws.{Read, count_positive, send_put, table_read}
use Rattle.step_writer.proofs.send.put_send.Goals as goal
use Rattle.step_writer.proofs.send.put_send.Goals.{After-count_array-counts}

-- what was read of the table
known : (c : After-count_array-counts) → Read c.args.table.bytes.now c.process_count-n.result c.message_count-m.result c.count_array-counts.result
known c = table_read c.args.table.accepted c.process_count-n.ensures c.message_count-m.ensures c.count_array-counts.ensures

-- ---- the head
pub bounds-counts-from : goal.bounds-counts-from
bounds-counts-from c = omega (arith, processes_few _ c.args.table.accepted)

pub overflow_sub-sent : goal.overflow_sub-sent
overflow_sub-sent c =
    omega (arith, count_positive (known (goal.at.overflow_sub-sent c).After-count_array-counts) c.requires.from_bound)

pub slice_bounds-counts-end : goal.slice_bounds-counts-end
slice_bounds-counts-end c = omega (arith, processes_few _ c.args.table.accepted)

pub slice_bounds-put_head-end : goal.slice_bounds-put_head-end
slice_bounds-put_head-end c = sym (length-take-le _ _ (omega (arith, processes_few _ c.args.table.accepted)))

pub put_head-requires-clause-m_bound : goal.put_head-requires-clause-m_bound
put_head-requires-clause-m_bound c = omega (arith, messages_few _ c.args.table.accepted)

-- ---- the arrays
pub sends_at-requires : goal.sends_at-requires
sends_at-requires c = omega (arith, processes_few _ c.args.table.accepted)

pub put_longer-requires-clause-part_len : goal.put_longer-requires-clause-part_len
put_longer-requires-clause-part_len c = omega (arith, ap length c.sends.ensures, sends_size _ c.args.table.accepted)

pub receipts_at-requires : goal.receipts_at-requires
receipts_at-requires c = omega (arith, processes_few _ c.args.table.accepted, messages_few _ c.args.table.accepted)

pub put_longer-requires-2-clause-part_len : goal.put_longer-requires-2-clause-part_len
put_longer-requires-2-clause-part_len c = omega (arith, ap length c.receipts.ensures, receipts_size _ c.args.table.accepted)

pub returns : goal.returns
returns c =
    let read = known (goal.at.returns c).After-count_array-counts in
    send_put (messages_read c.args.table.accepted read.m_is c.sends.ensures c.receipts.ensures) read _ _ refl (record {
      room = omega arith;
      head = c.put_head.ensures;
      sends_begin = c.sends_at.ensures;
      sends_put = c.put_longer.ensures;
      receipts_begin = c.receipts_at.ensures;
      receipts_put = c.put_longer-2.ensures;
    })
