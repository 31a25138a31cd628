-- The two bytes of the number, and the place behind them.
use Rattle.std.proofs.Common.{arith}
use Rattle.tables.specs.Numbers.{bytes_of, bytes_of_all}
use Rattle.sheet_writer.proofs.writing.put_number.Goals as goal

pub returns : goal.returns
unfolding bytes_of_all bytes_of
returns c = record { contents = c.put_u16.ensures; place = omega arith }
