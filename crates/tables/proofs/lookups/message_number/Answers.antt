-- `lookups::message_number` meets its contract, below M and beyond.
use Rattle.std.proofs.Common.{◌≡◌, refl, sym, ap, ◌∙◌}
use Rattle.tables.proofs.FormatLaws.{ReadSizes, message_none, received-there, receiver_there, sender_there, sent_there}
use Rattle.tables.specs.Fields.{number_of}
use Rattle.tables.specs.Table.{no_message}
use Rattle.tables.specs.declared.lookups.Field.{Field}
use Rattle.tables.specs.declared.lookups.Field.TheVariants.{Received, Receiver, Sender, Sent}
use Rattle.tables.proofs.lookups.message_number.Goals as goal
use Rattle.tables.proofs.lookups.message_number.Goals.{After-u16_or_zero-m}

none_number : (f : Field) → number_of f no_message ≡ 0
none_number Sender = refl
none_number Sent = refl
none_number Receiver = refl
none_number Received = refl

-- N and M
sizes : (c : After-u16_or_zero-m) → ReadSizes c.args.table.now c.u16_or_zero-n.result c.u16_or_zero-m.result
sizes c = record { n_is = c.u16_or_zero-n.ensures; m_is = c.u16_or_zero-m.ensures }

-- k is M or above
pub returns-then-m-k : goal.returns-then-m-k
returns-then-m-k c =
    let read = sizes (goal.at.returns-then-m-k c).After-u16_or_zero-m in
    sym (ap (number_of c.args.field) (message_none read c.if-m-k.true) ∙ none_number c.args.field)

-- it is below: what was read is the field's
pub returns-in-Sender : goal.returns-in-Sender
returns-in-Sender c =
    let read = sizes (goal.at.returns-in-Sender c).After-u16_or_zero-m in
    rw c.in-Sender.is (sender_there read c.if-m-k.false c.sends_at.ensures c.u16_or_zero.ensures)

pub returns-in-Sent : goal.returns-in-Sent
returns-in-Sent c =
    let read = sizes (goal.at.returns-in-Sent c).After-u16_or_zero-m in
    rw c.in-Sent.is (sent_there read c.if-m-k.false c.sends_at-in-Sent.ensures c.u16_or_zero-in-Sent.ensures)

pub returns-in-Receiver : goal.returns-in-Receiver
returns-in-Receiver c =
    let read = sizes (goal.at.returns-in-Receiver c).After-u16_or_zero-m in
    rw c.in-Receiver.is (receiver_there read c.if-m-k.false c.receipts_at.ensures c.u16_or_zero-in-Receiver.ensures)

pub returns-in-Received : goal.returns-in-Received
returns-in-Received c =
    let read = sizes (goal.at.returns-in-Received c).After-u16_or_zero-m in
    rw c.in-Received.is (received-there read c.if-m-k.false c.receipts_at-in-Received.ensures c.u16_or_zero-in-Received.ensures)
