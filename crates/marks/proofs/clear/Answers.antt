-- `clear` meets its contract: the first bytes are 0, and those beyond them are kept.
use Rattle.marks.proofs.BitLaws.{filled_cleared}
use Rattle.marks.proofs.clear.Goals as goal

pub returns : goal.returns
returns c = filled_cleared _ _ c.requires (c.fill.ensures.after (λ y same. same))
