-- `propagating` meets its contract, by the parts of the table.
use Rattle.holder_lines.proofs.PropagationLaws.{parts_counted, propagates_read}
use Rattle.tables.proofs.ReadLaws.{ReadMessages, messages_read}
use Rattle.holder_lines.proofs.propagating.Goals as goal
use Rattle.holder_lines.proofs.propagating.Goals.{After-messages}

-- the messages
read : (c : After-messages) → ReadMessages c.args.table.bytes.now c.messages.result.count c.messages.result.sends.now c.messages.result.receipts.now
read c = messages_read c.args.table.accepted c.messages.ensures.count c.messages.ensures.sends c.messages.ensures.receipts

pub propagating-requires : goal.propagating-requires
propagating-requires c = parts_counted (read (goal.at.propagating-requires c).After-messages) c.counts.ensures

pub returns : goal.returns
returns c = rw (propagates_read (read (goal.at.returns c).After-messages) c.counts.ensures) at c.propagating.ensures
