-- The process that `unknown_at` reads is that of the test.
use Rattle.run_table.proofs.entries.Entries.unknown_at.Goals as goal
use Rattle.run_table.specs.EntryChecks.{unknown_at}
use Rattle.std.proofs.Common.{rules}
use Rattle.tables.specs.Format.{process_at}

pub returns : goal.returns
unfolding unknown_at process_at
returns c = search rules
