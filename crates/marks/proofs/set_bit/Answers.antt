-- `set_bit` meets its contract: the code joins the byte with 2 ^ (b % 8).
use Rattle.marks.proofs.BitLaws.{or_ed}
use Rattle.marks.proofs.set_bit.Goals as goal

pub returns : goal.returns
returns c = or_ed _ _
