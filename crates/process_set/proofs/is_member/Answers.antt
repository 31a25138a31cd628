-- `process_set::is_member` meets its contract: by what `bit` ensures, the code masks the set with 2 ^ p.
use Rattle.process_set.proofs.SetLaws.{mask_is_member}
use Rattle.process_set.proofs.is_member.Goals as goal

pub returns : goal.returns
returns c = rw c.bit.ensures (mask_is_member _ _)
