-- By the message's four numbers and the lowest line's: it is undelivered; it crosses no line; or the lines say it.
use Rattle.std.proofs.Common.{arith}
use Rattle.sheet_entries.proofs.SearchLaws.{delivered_kept, message_beside, old_kept, undelivered_kept}
use Rattle.tables.specs.Format.{message_at}
use Rattle.sheet_entries.proofs.messages.LinesWithLowest.is_kept.Goals as goal

pub returns-then-received-eq0 : goal.returns-then-received-eq0
returns-then-received-eq0 c = undelivered_kept _ _ _ c.received-received.ensures c.if-received-eq0.true

pub returns-then-received-self : goal.returns-then-received-self
unfolding message_at
returns-then-received-self c =
    let beside = message_beside c.args.self.now.lines.holds c.requires c.receiver-receiver.ensures.number c.args.self.now.lowest_is in
    old_kept _ _ _ c.received-received.ensures c.if-received-eq0.false beside.lowest_is c.if-received-self.true

pub crosses_line-requires-clause-sender_lt_n : goal.crosses_line-requires-clause-sender_lt_n
unfolding message_at
crosses_line-requires-clause-sender_lt_n c = omega (arith, c.sender.ensures.number, c.requires.sender_known)

pub crosses_line-requires-clause-receiver_lt_n : goal.crosses_line-requires-clause-receiver_lt_n
unfolding message_at
crosses_line-requires-clause-receiver_lt_n c = omega (arith, c.receiver-receiver.ensures.number, c.requires.receiver_known)

pub returns : goal.returns
returns c =
    delivered_kept _ _ _ c.received-received.ensures c.if-received-eq0.false c.receiver-receiver.ensures.number c.sender.ensures.number
    c.sent.ensures c.crosses_line.ensures
