-- `store_numbers` meets its contract: the numbers stand at their place (`part_put`).
use Rattle.std.proofs.Common.{arith}
use Rattle.tables.proofs.NumberLaws.{part_put}
use Rattle.number_writer.proofs.store_numbers.Goals as goal

pub returns : goal.returns
returns c = part_put _ _ c.copy_from_slice.ensures.after (omega arith)
