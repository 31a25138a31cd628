-- The rows of the first k lines are put.
use Rattle.text_writer.proofs.TextLaws.{Putting}
use Rattle.listings.specs.Listing.{hold_row}
use Rattle.listing_text.specs.Rows.{hold_rows, line_at}
use Rattle.listing_text.proofs.rows.put_holds.Given as goal

abbrev pub invariant-loop-k : goal.invariant-loop-k
invariant-loop-k l =
    Putting (λ j. hold_row j (line_at l.lines.numbers.now l.lines.n j)) l.lines.n (hold_rows l.lines.numbers.now l.lines.n) l.fn.writer l.writer l.k
