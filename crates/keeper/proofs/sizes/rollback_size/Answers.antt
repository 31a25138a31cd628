-- N is small.
use Rattle.keeper.proofs.sizes.rollback_size.Goals as goal
use Rattle.std.proofs.Common.{arith}
use Rattle.tables.proofs.ReadLaws.{processes_few}

pub table_length-requires-clause-n_bound : goal.table_length-requires-clause-n_bound
table_length-requires-clause-n_bound c = omega (arith, processes_few _ c.args.table.accepted)
