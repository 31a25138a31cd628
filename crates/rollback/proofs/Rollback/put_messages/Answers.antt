-- `Rollback::put_messages` meets its contract: a message that goes leaves the buffer alone, and one that stays is put behind those before it.
-- Assumes nothing.
use native.Mathlib.Omega.{arith}
use Prim.Native.Nat.{◌+◌, ◌*◌, ◌≤◌}
use lib.ListN.{length}
use Rattle.tables.proofs.ReadLaws.{receiver_small, sender_small}
use Rattle.rollback.proofs.RollbackLaws.{gathering_all, gathering_goes, gathering_none, gathering_room, gathering_stays}
use Rattle.rollback.proofs.Rollback.put_messages.Goals as goal
use Rattle.rollback.proofs.Rollback.put_messages.Goals.{Else-self-sender}

-- an entry more has room where the message stays
room : (c : Else-self-sender) → c.loop-k.place + 4 * c.args.m + 4 ≤ length c.loop-k.buffer
room c = gathering_room c.loop-k.invariant c.loop-k-test.true c.u16_at-sender.ensures c.u16_at-sent.ensures c.if-self-sender.false

pub loop-k-init : goal.loop-k-init
loop-k-init c =
    gathering_none c.args.self.now.at_line c.requires.m_value c.requires.m_in_bounds c.message_count-k-end.ensures
    c.sends-sends.ensures c.receipts-receipts.ensures

pub bounds-self-sender : goal.bounds-self-sender
bounds-self-sender c = sender_small c.loop-k.invariant.given.messages.read c.loop-k-test.true c.u16_at-sender.ensures

pub loop-k-preserved-then-self-sender : goal.loop-k-preserved-then-self-sender
loop-k-preserved-then-self-sender c =
    gathering_goes c.loop-k.invariant c.loop-k-test.true c.u16_at-sender.ensures c.u16_at-sent.ensures
    c.if-self-sender.true

pub put_entry-requires : goal.put_entry-requires
put_entry-requires c = omega (arith, room (goal.at.put_entry-requires c).Else-self-sender)

pub overflow_add-place : goal.overflow_add-place
overflow_add-place c = omega (arith, room (goal.at.overflow_add-place c).Else-self-sender)

pub bounds-self-receiver : goal.bounds-self-receiver
bounds-self-receiver c = receiver_small c.loop-k.invariant.given.messages.read c.loop-k-test.true c.u16_at-receiver.ensures

pub put_entry-requires-in-loop-k : goal.put_entry-requires-in-loop-k
put_entry-requires-in-loop-k c = omega (arith, room (goal.at.put_entry-requires-in-loop-k c).Else-self-sender)

pub overflow_add-place-in-loop-k : goal.overflow_add-place-in-loop-k
overflow_add-place-in-loop-k c = omega (arith, room (goal.at.overflow_add-place-in-loop-k c).Else-self-sender)

pub loop-k-preserved : goal.loop-k-preserved
loop-k-preserved c =
    gathering_stays c.loop-k.invariant c.loop-k-test.true c.u16_at-sender.ensures c.u16_at-sent.ensures
    c.if-self-sender.false c.u16_at-receiver.ensures c.u16_at-received.ensures c.receipt_left.ensures
    c.put_entry.ensures c.put_entry-in-loop-k.ensures

pub returns : goal.returns
returns c =
    gathering_all c.loop-k.invariant c.loop-k-test.false
