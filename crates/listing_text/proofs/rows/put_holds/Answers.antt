-- The row of each line is put behind those before it.
use Rattle.std.proofs.Common.{ap, refl}
use Rattle.text_writer.proofs.TextLaws.{putting_all, putting_more, putting_none, putting_room}
use Rattle.listings.specs.Listing.{hold_row}
use Rattle.listing_text.specs.Rows.{hold_rows, line_at}
use Rattle.listing_text.proofs.rows.put_holds.Goals as goal

pub loop-k-init : goal.loop-k-init
unfolding hold_rows
loop-k-init c = putting_none refl c.requires

pub put_long_row-requires : goal.put_long_row-requires
unfolding hold_row line_at
put_long_row-requires c = putting_room c.loop-k.invariant (ap (hold_row c.loop-k.k) c.line.ensures) c.loop-k-test.true

pub loop-k-preserved : goal.loop-k-preserved
unfolding hold_row line_at
loop-k-preserved c = putting_more c.loop-k.invariant (ap (hold_row c.loop-k.k) c.line.ensures) c.loop-k-test.true c.put_long_row.ensures

pub returns : goal.returns
unfolding hold_rows
returns c = putting_all c.loop-k.invariant c.loop-k-test.false
