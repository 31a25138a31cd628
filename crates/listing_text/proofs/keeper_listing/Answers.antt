-- The outcome, as numbers.
use Rattle.keeper.proofs.OutcomeLaws.{told_holds}
use Rattle.listing_text.proofs.keeper_listing.Goals as goal

pub returns : goal.returns
returns c = record {
  outcome = rw (c.told.ensures.number, c.told.ensures.length) (c.listing.ensures.outcome _);
  rounded = told_holds _ _ c.listing.ensures.rounded _ c.told.ensures.number c.told.ensures.length;
  fits = λ room. rw c.told.ensures.number (c.listing.ensures.fits room);
}
