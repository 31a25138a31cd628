-- The digits of a number are those of its tenth, and the last.
use Rattle.std.proofs.Common.{arith}
use Rattle.text_writer.proofs.TextLaws.{more_digits, none_left, one_digit, part_put, part_room}
use Rattle.text_writer.proofs.TextWriter.+put_decimal.Goals as goal

-- one digit
pub put_byte-requires : goal.put_byte-requires
put_byte-requires t c = part_room (one_digit {before = c.args.self.now} c.if-n-lt10.true c.requires)

pub returns-then-n-lt10 : goal.returns-then-n-lt10
returns-then-n-lt10 t c = none_left (part_put (one_digit c.if-n-lt10.true c.requires) c.put_byte.ensures)

-- more digits: those of the tenth
pub put_decimal-requires : goal.put_decimal-requires
put_decimal-requires t c =
    (omega (arith, c.decreases, c.if-n-lt10.false), part_room (more_digits {before = c.args.self.now} c.if-n-lt10.false c.requires))

-- and the last
pub put_byte-requires-else-n-lt10 : goal.put_byte-requires-else-n-lt10
put_byte-requires-else-n-lt10 t c = part_room (part_put (more_digits c.if-n-lt10.false c.requires) c.put_decimal.ensures)

pub returns-else-n-lt10 : goal.returns-else-n-lt10
returns-else-n-lt10 t c =
    let tenth = part_put (more_digits c.if-n-lt10.false c.requires) c.put_decimal.ensures in
    none_left (part_put tenth c.put_byte-else-n-lt10.ensures)
