-- The rows of the first e checkpoints are put.
use Rattle.text_writer.proofs.TextLaws.{Putting}
use Rattle.listings.specs.Listing.{checkpoint_row}
use Rattle.listing_text.specs.Rows.{checkpoint_at, checkpoint_rows}
use Rattle.listing_text.proofs.rows.put_checkpoints.Given as goal

abbrev pub invariant-loop-e : goal.invariant-loop-e
invariant-loop-e l = Putting (λ j. checkpoint_row (checkpoint_at l.sheet l.k j)) l.k (checkpoint_rows l.sheet l.k) l.fn.writer l.writer l.e
