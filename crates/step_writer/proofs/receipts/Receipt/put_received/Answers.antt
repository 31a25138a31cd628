-- `Receipt::put_received` meets its contract: the head with the count that may grow, the sends, the receipts.
-- Assumes nothing.
use native.Mathlib.Omega.{arith}
use mathlib.Core.Path.{refl, sym, ap}
use Prim.Native.Nat.{ℕ}
use lib.ListN.{length, length-set}
use lib.Seq.{length-take-le}
use Rattle.tables.proofs.ReadLaws.{messages_few, messages_read, processes_few, receipts_size, sends_size}
use Rattle.step_writer.proofs.ReceiptLaws.{received_put}
use Rattle.step_writer.proofs.ListedLaws.{positions_below}
use Rattle.step_writer.proofs.SendLaws.{Read, count_small, table_read}
use Rattle.step_writer.proofs.receipts.Receipt.put_received.Goals as goal
use Rattle.step_writer.proofs.receipts.Receipt.put_received.Goals.{After-count_array-counts}

-- what was read of the table
known : (c : After-count_array-counts) → Read c.args.self.now.table.bytes.now c.process_count-n.result c.message_count-m.result c.count_array-counts.result
known c = table_read c.args.self.now.table.accepted c.process_count-n.ensures c.message_count-m.ensures c.count_array-counts.ensures

-- ---- the head
pub bounds-counts-self : goal.bounds-counts-self
bounds-counts-self c = omega (arith, processes_few _ c.args.self.now.table.accepted)

pub overflow_add-counts : goal.overflow_add-counts
overflow_add-counts c =
    omega (arith, count_small (known (goal.at.overflow_add-counts c).After-count_array-counts) c.args.self.now.can_receive.known)

pub bounds-counts-self-2 : goal.bounds-counts-self-2
bounds-counts-self-2 c = omega (arith, processes_few _ c.args.self.now.table.accepted)

pub slice_bounds-counts-end : goal.slice_bounds-counts-end
slice_bounds-counts-end c = omega (arith, processes_few _ c.args.self.now.table.accepted, length-set {A = ℕ})

pub slice_bounds-put_head-end : goal.slice_bounds-put_head-end
slice_bounds-put_head-end c =
    sym (length-take-le _ _ (omega (arith, processes_few _ c.args.self.now.table.accepted, length-set {A = ℕ})))

pub put_head-requires-clause-m_bound : goal.put_head-requires-clause-m_bound
put_head-requires-clause-m_bound c = omega (arith, messages_few _ c.args.self.now.table.accepted)

-- ---- the sends and the receipts
pub sends_at-requires : goal.sends_at-requires
sends_at-requires c = omega (arith, processes_few _ c.args.self.now.table.accepted)

pub copy_numbers-requires-clause-n_in_bounds : goal.copy_numbers-requires-clause-n_in_bounds
copy_numbers-requires-clause-n_in_bounds c = omega (arith, ap length c.sends.ensures, sends_size _ c.args.self.now.table.accepted)

pub receipts_at-requires : goal.receipts_at-requires
receipts_at-requires c =
    omega (arith, processes_few _ c.args.self.now.table.accepted, messages_few _ c.args.self.now.table.accepted)

pub put_receipts-requires-clause-receipts_len : goal.put_receipts-requires-clause-receipts_len
put_receipts-requires-clause-receipts_len c =
    omega (arith, ap length c.receipts.ensures, receipts_size _ c.args.self.now.table.accepted)

pub put_receipts-requires-clause-by_index : goal.put_receipts-requires-clause-by_index
put_receipts-requires-clause-by_index c = positions_below c.args.self.now.can_receive c.message_count-m.ensures

pub returns : goal.returns
returns c =
    let read = known (goal.at.returns c).After-count_array-counts in
    received_put (messages_read read.accepted read.m_is c.sends.ensures c.receipts.ensures) c.args.self.now.can_receive read refl _ (record {
      room = omega arith;
      head = c.put_head.ensures;
      sends_begin = c.sends_at.ensures;
      sends_put = c.copy_numbers.ensures;
      receipts_begin = c.receipts_at.ensures;
      receipts_put = c.put_receipts.ensures;
    })
