-- N and M are small.
use Rattle.keeper.proofs.sizes.send_size.Goals as goal
use Rattle.std.proofs.Common.{arith}
use Rattle.tables.proofs.ReadLaws.{messages_few, processes_few}

pub overflow_add-message_count : goal.overflow_add-message_count
overflow_add-message_count c = omega (arith, messages_few _ c.args.table.accepted)

pub table_length-requires-clause-n_bound : goal.table_length-requires-clause-n_bound
table_length-requires-clause-n_bound c = omega (arith, processes_few _ c.args.table.accepted)

pub table_length-requires-clause-m_bound : goal.table_length-requires-clause-m_bound
table_length-requires-clause-m_bound c = omega (arith, messages_few _ c.args.table.accepted)
