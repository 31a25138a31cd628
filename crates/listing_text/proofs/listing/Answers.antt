-- `listing` meets its contract, at each return.
use Rattle.listing_text.proofs.ListingLaws.{listing_answered, listing_ends, listing_longer, listing_refused, sheet_answered, sheet-number}
use Rattle.listing_text.proofs.listing.Goals as goal
use Rattle.listing_text.proofs.listing.Goals.{After-keep_sheet-kept}
use Rattle.listing_text.specs.Rows.{Answered}
use Rattle.listings.proofs.SizeLaws.{text_few}
use Rattle.std.proofs.Common.{arith, refl, ◌≡◌}
use Rattle.tables.proofs.RefusedLaws.{refusal_few}
use Rattle.tables.specs.Checks.{table_refusal}
use Rattle.tables.specs.Format.{decode}
use Rattle.tables.specs.Refusals.{refusal_in}
use lib.Dec.{lit≤}

-- the call for a keep sheet was refused as the table is, and left its answers
refusal_is : (c : After-keep_sheet-kept) → refusal_in c.keep_sheet-kept.result ≡ table_refusal c.args.table.now
refusal_is c = sheet-number _ _ _ (lit≤ tt) (lit≤ tt) (c.keep_sheet-kept.ensures.outcome 0) c.keep_sheet-kept.ensures.lines

answers : (c : After-keep_sheet-kept) → table_refusal c.args.table.now ≡ 0
    → Answered (decode c.args.table.now) c.keep_sheet-kept.new.scratch c.keep_sheet-kept.new.answer
answers c = sheet_answered _ _ _ (lit≤ tt) (lit≤ tt) (c.keep_sheet-kept.ensures.outcome 0) c.keep_sheet-kept.ensures.lines

-- the text is measured
pub put_text-size-requires : goal.put_text-size-requires
put_text-size-requires c =
    let here = (goal.at.put_text-size-requires c).After-keep_sheet-kept in
    record { refusal_value = refusal_is here; answered = answers here }

-- 16
pub returns-then-text-size : goal.returns-then-text-size
returns-then-text-size c =
    let few =
    text_few c.args.table.now
    (omega (arith, refusal_is (goal.at.returns-then-text-size c).After-keep_sheet-kept, refusal_few c.keep_sheet-kept.result)) in
    let longer = listing_longer _ _ c.put_text-size.ensures c.if-text-size.true in
    record {
      outcome = λ before. listing_refused _ _ c.put_text-size.ensures c.if-text-size.true;
      rounded = tt;
      fits = λ room. absurd (omega (arith, room, longer, few));
    }

-- the text is put
pub put_text-requires : goal.put_text-requires
put_text-requires c =
    let here = (goal.at.put_text-requires c).After-keep_sheet-kept in
    record { refusal_value = refusal_is here; answered = answers here }

pub returns : goal.returns
returns c =
    record {
      outcome = λ before. listing_answered _ _ c.put_text-size.ensures c.if-text-size.false c.put_text.ensures;
      rounded = listing_ends _ _ c.put_text-size.ensures c.if-text-size.false c.put_text.ensures;
      fits = λ room. refl;
    }
