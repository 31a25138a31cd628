-- `writing::put_part` meets its contract: each part by the function that puts it.
use native.Mathlib.Omega.{arith}
use Rattle.tables.proofs.ReadLaws.{ReadMessages, counts_known, messages_known, messages_read}
use Rattle.sheet_writer.proofs.PartLaws.{column_is, positions_are, sizes_are}
use Rattle.sheet_writer.proofs.writing.put_part.Goals as goal
use Rattle.sheet_writer.proofs.writing.put_part.Goals.{After-messages}

-- the messages, as they were read
messages : (c : After-messages)
    → ReadMessages c.args.holders.table.bytes.now c.messages.result.count c.messages.result.sends.now c.messages.result.receipts.now
messages c = messages_read c.args.holders.table.accepted c.messages.ensures.count c.messages.ensures.sends c.messages.ensures.receipts

pub put_sizes-requires : goal.put_sizes-requires
put_sizes-requires c = rw (← sizes_are c.in-Sizes.is) at c.requires

pub put_column-requires : goal.put_column-requires
put_column-requires c =
    let numbers = column_is c.lines-lines.ensures.lines_of c.lines-lines.ensures.n c.counts.ensures c.in-Kept.is in
    record {
      counts = counts_known _ c.args.holders.table.accepted c.lines-lines.ensures.n c.counts.ensures;
      counts_in_bounds = rw numbers c.requires;
    }

pub put_positions-requires : goal.put_positions-requires
put_positions-requires c =
    let read = messages (goal.at.put_positions-requires c).After-messages in
    record {
      messages = messages_known read (omega (arith, c.lines-lines.ensures.n));
      m_in_bounds = rw (positions_are c.lines-lines.ensures.lines_of c.lines-lines.ensures.n read c.in-Positions.is) c.requires;
    }

pub returns-in-Sizes : goal.returns-in-Sizes
returns-in-Sizes c = rw (← sizes_are c.in-Sizes.is) c.put_sizes.ensures

pub returns-in-Kept : goal.returns-in-Kept
returns-in-Kept c =
    rw (column_is c.lines-lines.ensures.lines_of c.lines-lines.ensures.n c.counts.ensures c.in-Kept.is) at c.put_column.ensures

pub returns-in-Positions : goal.returns-in-Positions
returns-in-Positions c =
    let read = messages (goal.at.returns-in-Positions c).After-messages in
    rw (positions_are c.lines-lines.ensures.lines_of c.lines-lines.ensures.n read c.in-Positions.is) at c.put_positions.ensures
