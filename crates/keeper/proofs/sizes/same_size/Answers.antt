-- An accepted table is as long as the format says.
use Rattle.keeper.proofs.sizes.same_size.Goals as goal
use Rattle.tables.proofs.ReadLaws.{whole}

pub returns : goal.returns
returns c = whole _ c.args.table.accepted
