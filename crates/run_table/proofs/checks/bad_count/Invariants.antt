-- The loop of `bad_count`: no count below p is bad.
use Rattle.run_table.specs.EntryChecks.{bad_count_at}
use Rattle.tables.proofs.SearchedLaws.{Searched}
use Rattle.run_table.proofs.checks.bad_count.Given as goal

abbrev pub invariant-loop-p : goal.invariant-loop-p
invariant-loop-p l = Searched l.n (bad_count_at l.counts) l.p
