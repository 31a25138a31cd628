-- `put_text` meets its contract, of an accepted table and of one that is refused.
use Rattle.listing_text.proofs.ListingLaws.{accepted_text, refused_text}
use Rattle.listing_text.proofs.put_text.Goals as goal
use Rattle.listing_text.proofs.put_text.Goals.{In-Ok}
use Rattle.listings.proofs.SizeLaws.{refused_few}
use Rattle.listings.specs.Listing.{refused_row}
use Rattle.std.proofs.Common.{ap, arith, rules, sym, ◌∙◌, ◌≡◌}
use Rattle.tables.proofs.RefusedLaws.{refused_some}
use Rattle.tables.specs.Checks.{table_refusal}
use Rattle.tables.specs.Refusals.{refusal_in}
use Rattle.text_writer.proofs.TextLaws.{laid_same, text_laid}

-- the call answered, and so the table is accepted
accepted : (c : In-Ok) → table_refusal c.args.table.now ≡ 0
accepted c = sym c.requires.refusal_value ∙ ap refusal_in c.in-Ok.is

pub put_listing-requires : goal.put_listing-requires
put_listing-requires c = c.requires.answered (accepted (goal.at.put_listing-requires c).In-Ok)

pub returns-in-Ok : goal.returns-in-Ok
returns-in-Ok c = laid_same (accepted_text _ (accepted (goal.at.returns-in-Ok c).In-Ok)) c.put_listing.ensures

pub put_row-requires : goal.put_row-requires
unfolding refused_row
put_row-requires c = omega (arith, refused_few c.from.result (omega arith))

pub returns-in-Err : goal.returns-in-Err
unfolding refused_row
returns-in-Err c =
    let is = c.from.ensures ∙ sym (ap refusal_in c.in-Err.is) ∙ c.requires.refusal_value in
    let laid = laid_same (refused_text _ _ is (λ none. refused_some _ (sym c.from.ensures ∙ none))) (text_laid c.put_row.ensures) in
    search (rules, laid)
