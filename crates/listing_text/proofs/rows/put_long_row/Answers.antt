-- The word, a number, the others, the line feed.
use Rattle.text_writer.proofs.TextLaws.{none_left, part_put, part_room, row_more}
use Rattle.listing_text.proofs.rows.put_long_row.Goals as goal

pub put_word-requires : goal.put_word-requires
put_word-requires c = part_room (row_more _ {before = c.args.writer.now} _ _ c.requires)

pub put_field-requires : goal.put_field-requires
put_field-requires c = part_room (part_put (row_more _ _ _ c.requires) c.put_word.ensures)

pub put_fields-requires : goal.put_fields-requires
put_fields-requires c =
    part_room (part_put (part_put (row_more _ _ _ c.requires) c.put_word.ensures) c.put_field.ensures)

pub put_byte-requires : goal.put_byte-requires
put_byte-requires c =
    let row = part_put (part_put (row_more _ _ _ c.requires) c.put_word.ensures) c.put_field.ensures in
    part_room (part_put row c.put_fields.ensures)

pub returns : goal.returns
returns c =
    let row = part_put (part_put (row_more _ _ _ c.requires) c.put_word.ensures) c.put_field.ensures in
    none_left (part_put (part_put row c.put_fields.ensures) c.put_byte.ensures)
