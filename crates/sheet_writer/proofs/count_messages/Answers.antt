-- What the lines say is kept are the kept messages of the table.
use Rattle.std.proofs.Common.{ap, arith, ◌∙◌}
use lib.ListN.{length}
use Rattle.sheet_entries.proofs.FoundLaws.{positions_found}
use Rattle.tables.proofs.ReadLaws.{ReadMessages, messages_known, messages_read}
use Rattle.sheet_writer.proofs.count_messages.Goals as goal
use Rattle.sheet_writer.proofs.count_messages.Goals.{After-messages}

read : (c : After-messages)
    → ReadMessages c.args.holders.table.bytes.now c.messages.result.count c.messages.result.sends.now c.messages.result.receipts.now
read c = messages_read c.args.holders.table.accepted c.messages.ensures.count c.messages.ensures.sends c.messages.ensures.receipts

pub count_kept-requires : goal.count_kept-requires
count_kept-requires c = messages_known (read (goal.at.count_kept-requires c).After-messages) (omega (arith, c.lines.ensures.n))

pub returns : goal.returns
returns c =
    c.count_kept.ensures ∙ ap length (positions_found c.lines.ensures.lines_of c.lines.ensures.n (read (goal.at.returns c).After-messages))
