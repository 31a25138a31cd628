-- The space, and the number behind it.
use Rattle.text_writer.proofs.TextLaws.{field_parts, none_left, part_put, part_room}
use Rattle.text_writer.proofs.TextWriter.put_field.Goals as goal

pub put_byte-requires : goal.put_byte-requires
put_byte-requires c = part_room (field_parts _ {before = c.args.self.now} c.requires)

pub put_decimal-requires : goal.put_decimal-requires
put_decimal-requires c = part_room (part_put (field_parts _ c.requires) c.put_byte.ensures)

pub returns : goal.returns
returns c = none_left (part_put (part_put (field_parts _ c.requires) c.put_byte.ensures) c.put_decimal.ensures)
