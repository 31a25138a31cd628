-- The rows of the first e positions are put.
use Rattle.std.proofs.Common.{◌+◌, ◌*◌}
use Rattle.text_writer.proofs.TextLaws.{Putting}
use Rattle.listings.specs.Listing.{message_row}
use Rattle.listing_text.specs.Rows.{message_rows}
use Rattle.tables.specs.Numbers.{u16_at}
use Rattle.listing_text.proofs.rows.put_messages.Given as goal

abbrev pub invariant-loop-e : goal.invariant-loop-e
invariant-loop-e l = Putting (λ j. message_row (u16_at l.sheet (4 + 4 * l.k + 2 * j))) l.q (message_rows l.sheet l.k l.q) l.fn.writer l.writer l.e
