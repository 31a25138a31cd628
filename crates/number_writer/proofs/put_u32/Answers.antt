-- `put_u32` meets its contract: the four bytes stand at their place (`part_put`).
use Rattle.std.proofs.Common.{◌∙◌, arith}
use Rattle.tables.proofs.NumberLaws.{four_bytes, length_bytes, part_put}
use Rattle.number_writer.proofs.put_u32.Goals as goal

pub returns : goal.returns
returns c =
    part_put _ _ (c.copy_from_slice.ensures.after ∙ c.to_le_bytes.ensures ∙ four_bytes _) (omega (arith, length_bytes 4 c.args.value))
