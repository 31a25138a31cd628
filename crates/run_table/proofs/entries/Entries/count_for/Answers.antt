-- The process and the count that `count_for` reads are those of the entry.
use Rattle.run_table.proofs.ScanLaws.{process_known}
use Rattle.run_table.proofs.entries.Entries.count_for.Goals as goal
use Rattle.std.proofs.Common.{arith}
use Rattle.tables.specs.Format.{count_at, process_at}

pub u16_at-requires : goal.u16_at-requires
u16_at-requires c = omega (arith, process_known _ _ _ c.requires.k_value)

pub returns : goal.returns
unfolding process_at count_at
returns c = rw (← c.u16_at-process.ensures, ← c.u16_at.ensures)
