-- The loop of `first_caught`: no check catches a message below k, each of them is in turn, and the array has where the last of each channel
-- stands (`Turned`).
use Rattle.run_table.proofs.ThroughLaws.{Turned}
use Rattle.run_table.proofs.entries.Entries.first_caught.Given as goal

abbrev pub invariant-loop-k : goal.invariant-loop-k
invariant-loop-k l = Turned l.self.n l.self.m l.self.counts.now l.self.sends.now l.self.receipts.now l.last l.k
