-- The loop of `first_fault`: `first` is the refusal by the first check of messages that catches one below k.
use Rattle.run_table.specs.Entries.{checks_of}
use Rattle.run_table.specs.EntryChecks.{checks_below, first_place, refusal_at}
use Rattle.run_table.proofs.entries.Entries.first_fault.Given as goal
use Rattle.std.proofs.Common.{◌≡◌}

abbrev pub invariant-loop-k : goal.invariant-loop-k
invariant-loop-k l = l.first ≡ refusal_at (first_place (checks_below (checks_of l.self) l.k))
