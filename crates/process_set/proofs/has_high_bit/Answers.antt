-- `process_set::has_high_bit` meets its contract: from 32 on there is no bit, and below 32 the code compares the set with 2 ^ n.
use Rattle.std.proofs.Common.{arith, sym}
use Rattle.process_set.proofs.SetLaws.{high_bit_is}
use Rattle.process_set.proofs.has_high_bit.Goals as goal

pub returns : goal.returns
returns c = rw c.bit.ensures (sym (high_bit_is _ _ (omega arith)))
