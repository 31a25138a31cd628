-- `pass` meets its contract. All that is marked is reachable, and where nothing was marked no message from k on leads to an unmarked state.
use native.Mathlib.Omega.{arith}
use mathlib.Core.Path.{sym, ◌∙◌}
use Rattle.marked_line.proofs.MarkPassLaws.{AtReceipt, AtSend, pass_begins, pass_marks, received-there, receiver_known}
use Rattle.marked_line.proofs.MarkPassLaws.{row_ready, sender_known, sent_there, skips_marked, skips_undelivered, skips_unreached}
use Rattle.tables.proofs.ReadLaws.{messages_read}
use Rattle.tables.specs.Format.{checkpoint_at, message_at, process_at}
use Rattle.marked_line.proofs.pass.Goals as goal
use Rattle.marked_line.proofs.pass.Goals.{After-receiver-receiver, After-sent-sent}

-- what is known of the next message: where its receipt was read, and where its send was
at_receipt : (c : After-receiver-receiver)
    → AtReceipt c.args.layout.now.table.bytes.now c.args.roots.now c.args.marks.now c.loop-k.marks c.loop-k.marked c.messages-messages.result.count
    c.messages-messages.result.sends.now c.messages-messages.result.receipts.now c.loop-k.k c.receiver-receiver.result c.received-received.result
unfolding message_at process_at checkpoint_at
at_receipt c = record {
  passing = c.loop-k.invariant;
  more = c.loop-k-test.true;
  receiver_read = c.receiver-receiver.ensures.number;
  received_read = c.received-received.ensures;
}

at_send : (c : After-sent-sent)
    → AtSend c.args.layout.now.table.bytes.now c.args.roots.now c.args.marks.now c.loop-k.marks c.loop-k.marked c.messages-messages.result.count
    c.messages-messages.result.sends.now c.messages-messages.result.receipts.now c.loop-k.k c.receiver-receiver.result c.received-received.result
    c.sender-sender.result c.sent-sent.result
unfolding message_at process_at checkpoint_at
at_send c = record {
  receipt = record {
    passing = c.loop-k.invariant;
    more = c.loop-k-test.true;
    receiver_read = c.receiver-receiver.ensures.number;
    received_read = c.received-received.ensures;
  };
  delivered = c.if-received-eq0.false;
  unmarked = sym c.is_marked.ensures ∙ c.if-is_marked.false;
  sender_read = c.sender-sender.ensures.number;
  sent_read = c.sent-sent.ensures;
}

pub loop-k-init : goal.loop-k-init
loop-k-init c =
    let read = c.messages-messages.ensures in
    pass_begins (messages_read c.args.layout.now.table.accepted read.count read.sends read.receipts) c.requires.lent c.requires.ready

pub loop-k-preserved-then-received-eq0 : goal.loop-k-preserved-then-received-eq0
unfolding message_at checkpoint_at
loop-k-preserved-then-received-eq0 c =
    skips_undelivered c.loop-k.invariant c.loop-k-test.true c.received-received.ensures c.if-received-eq0.true

pub is_marked-requires : goal.is_marked-requires
is_marked-requires c =
    let at = at_receipt (goal.at.is_marked-requires c).After-receiver-receiver in
    record { known = receiver_known at; there = received-there at; room = c.loop-k.invariant.lent.room }

pub loop-k-preserved-then-is_marked : goal.loop-k-preserved-then-is_marked
loop-k-preserved-then-is_marked c =
    skips_marked (at_receipt (goal.at.loop-k-preserved-then-is_marked c).After-receiver-receiver) (sym c.is_marked.ensures ∙ c.if-is_marked.true)

pub is_root_or_marked-requires : goal.is_root_or_marked-requires
is_root_or_marked-requires c =
    let at = at_send (goal.at.is_root_or_marked-requires c).After-sent-sent in
    record { lent = c.loop-k.invariant.lent; known = sender_known at; there = omega (arith, sent_there at) }

pub loop-k-preserved-then-not-is_root_or_marked : goal.loop-k-preserved-then-not-is_root_or_marked
loop-k-preserved-then-not-is_root_or_marked c =
    skips_unreached (at_send (goal.at.loop-k-preserved-then-not-is_root_or_marked c).After-sent-sent)
    (sym c.is_root_or_marked.ensures ∙ c.if-not-is_root_or_marked.true)

pub mark_from-requires : goal.mark_from-requires
mark_from-requires c =
    let at = at_send (goal.at.mark_from-requires c).After-sent-sent in
    let from-there = sym c.is_root_or_marked.ensures ∙ c.if-not-is_root_or_marked.false in
    record {
      known = receiver_known at.receipt;
      there = omega (arith, received-there at.receipt, c.from.ensures);
      room = c.loop-k.invariant.lent.room;
      onwards = row_ready at from-there c.from.ensures;
    }

pub loop-k-preserved : goal.loop-k-preserved
loop-k-preserved c =
    pass_marks (at_send (goal.at.loop-k-preserved c).After-sent-sent) (sym c.is_root_or_marked.ensures ∙ c.if-not-is_root_or_marked.false)
    c.from.ensures c.mark_from.ensures
