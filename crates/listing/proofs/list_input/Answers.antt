-- `list_input` puts the listing of the whole input.
use Rattle.std.proofs.Common.{◌∙◌, sym, length-take-le}
use Rattle.listing_text.proofs.ListingLaws.{input_listed, text_listed}
use Rattle.listing.proofs.list_input.Goals as goal

pub returns : goal.returns
returns c =
    let text = text_listed _ c.keeper_listing.ensures.outcome (c.keeper_listing.ensures.fits c.requires.in_bounds) in
    let read = input_listed c.args.buffer.now c.args.len c.requires.largest_table_in_bounds in
    record {
      prefix_len_2 = (text.0, sym (length-take-le _ _ text.0));
      lists_input = λ input front. text.1 ∙ read input front;
    }
