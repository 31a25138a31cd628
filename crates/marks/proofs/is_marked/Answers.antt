-- `is_marked` meets its contract: the code masks the byte with 2 ^ (b % 8).
use Rattle.marks.proofs.BitLaws.{masked}
use Rattle.marks.proofs.is_marked.Goals as goal

pub returns : goal.returns
returns c = masked _ _
