-- `numbers::put_u16` meets its contract: the two bytes stand at their place (`part_put`).
use Rattle.std.proofs.Common.{◌∙◌, arith}
use Rattle.tables.proofs.NumberLaws.{part_put}
use Rattle.tables.specs.Numbers.{bytes_of}
use Rattle.tables.proofs.numbers.put_u16.Goals as goal

pub returns : goal.returns
unfolding bytes_of
returns c = part_put _ _ (c.copy_from_slice.ensures.after ∙ c.to_le_bytes.ensures) (omega arith)
