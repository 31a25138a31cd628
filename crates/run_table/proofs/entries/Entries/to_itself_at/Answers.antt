-- The two processes that `to_itself_at` reads are those of the test.
use Rattle.run_table.proofs.entries.Entries.to_itself_at.Goals as goal
use Rattle.run_table.specs.EntryChecks.{to_itself_at}
use Rattle.std.proofs.Common.{rules}
use Rattle.tables.specs.Format.{process_at}

pub returns : goal.returns
unfolding to_itself_at process_at
returns c = search rules
