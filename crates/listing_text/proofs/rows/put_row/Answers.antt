-- The word, the field, the line feed.
use Rattle.text_writer.proofs.TextLaws.{none_left, part_put, part_room, row_one}
use Rattle.listing_text.proofs.rows.put_row.Goals as goal

pub put_word-requires : goal.put_word-requires
put_word-requires c = part_room (row_one _ {before = c.args.writer.now} _ c.requires)

pub put_field-requires : goal.put_field-requires
put_field-requires c = part_room (part_put (row_one _ _ c.requires) c.put_word.ensures)

pub put_byte-requires : goal.put_byte-requires
put_byte-requires c = part_room (part_put (part_put (row_one _ _ c.requires) c.put_word.ensures) c.put_field.ensures)

pub returns : goal.returns
returns c =
    let row = part_put (part_put (row_one _ _ c.requires) c.put_word.ensures) c.put_field.ensures in
    none_left (part_put row c.put_byte.ensures)
