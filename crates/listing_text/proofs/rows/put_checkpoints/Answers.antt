-- The row of each checkpoint is put behind those before it.
use Rattle.listing_text.proofs.RowLaws.{checkpoint_read}
use Rattle.text_writer.proofs.TextLaws.{putting_all, putting_more, putting_none, putting_room}
use Rattle.listings.specs.Listing.{checkpoint_row}
use Rattle.listing_text.specs.Rows.{checkpoint_rows}
use mathlib.Core.Path.{refl, ◌∙◌}
use Rattle.listing_text.proofs.rows.put_checkpoints.Goals as goal

pub loop-e-init : goal.loop-e-init
unfolding checkpoint_rows checkpoint_row
loop-e-init c = putting_none refl c.requires.fits

pub put_long_row-requires : goal.put_long_row-requires
unfolding checkpoint_rows checkpoint_row
put_long_row-requires c = putting_room c.loop-e.invariant (checkpoint_read _ _ _ (c.from.ensures ∙ c.u16_at-process.ensures) c.u16_at.ensures)
    c.loop-e-test.true

pub loop-e-preserved : goal.loop-e-preserved
unfolding checkpoint_rows checkpoint_row
loop-e-preserved c = putting_more c.loop-e.invariant (checkpoint_read _ _ _ (c.from.ensures ∙ c.u16_at-process.ensures) c.u16_at.ensures)
    c.loop-e-test.true c.put_long_row.ensures

pub returns : goal.returns
unfolding checkpoint_rows checkpoint_row
returns c = putting_all c.loop-e.invariant c.loop-e-test.false
