-- `rows::put_line` meets its contract: the word, the line's fields, the line feed.
use Rattle.text_writer.proofs.TextLaws.{none_left, part_put, part_room, row_parts}
use Rattle.listings.specs.Listing.{line_row}
use Rattle.listing_text.proofs.rows.put_line.Goals as goal

pub put_word-requires : goal.put_word-requires
unfolding line_row
put_word-requires c =
    part_room (row_parts _ {before = c.args.writer.now} _ c.requires)

pub put_fields-requires : goal.put_fields-requires
unfolding line_row
put_fields-requires c =
    part_room (part_put (row_parts _ _ c.requires) c.put_word.ensures)

pub put_byte-requires : goal.put_byte-requires
unfolding line_row
put_byte-requires c =
    part_room (part_put (part_put (row_parts _ _ c.requires) c.put_word.ensures) c.put_fields.ensures)

pub returns : goal.returns
unfolding line_row
returns c =
    let row = part_put (part_put (row_parts _ _ c.requires) c.put_word.ensures) c.put_fields.ensures in
    none_left (part_put row c.put_byte.ensures)
