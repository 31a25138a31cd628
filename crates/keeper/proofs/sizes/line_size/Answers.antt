-- N is small, so that nothing overflows.
use Rattle.keeper.proofs.sizes.line_size.Goals as goal
use Rattle.std.proofs.Common.{arith}
use Rattle.tables.proofs.ReadLaws.{processes_few}

pub overflow_mul-result : goal.overflow_mul-result
overflow_mul-result c = omega (arith, processes_few _ c.args.table.accepted)
