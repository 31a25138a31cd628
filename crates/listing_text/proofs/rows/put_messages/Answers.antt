-- The row of each position is put behind those before it.
use Rattle.text_writer.proofs.TextLaws.{putting_all, putting_more, putting_none, putting_room}
use Rattle.listings.specs.Listing.{message_row}
use Rattle.listing_text.specs.Rows.{message_rows}
use mathlib.Core.Path.{ap, refl, ◌∙◌}
use Rattle.listing_text.proofs.rows.put_messages.Goals as goal

pub loop-e-init : goal.loop-e-init
unfolding message_rows message_row
loop-e-init c = putting_none refl c.requires.fits

pub put_row-requires : goal.put_row-requires
unfolding message_rows message_row
put_row-requires c = putting_room c.loop-e.invariant (ap message_row (c.from.ensures ∙ c.u16_at-position.ensures)) c.loop-e-test.true

pub loop-e-preserved : goal.loop-e-preserved
unfolding message_rows message_row
loop-e-preserved c = putting_more c.loop-e.invariant (ap message_row (c.from.ensures ∙ c.u16_at-position.ensures)) c.loop-e-test.true c.put_row.ensures

pub returns : goal.returns
unfolding message_rows message_row
returns c = putting_all c.loop-e.invariant c.loop-e-test.false
