-- `named_ceiling` meets its contract. The invariant: the counts, with the names gone over so far put (`NamedPut`).
-- Assumes nothing.
use lib.ListN.{length}
use Rattle.named_checkpoints.proofs.NamedLaws.{NamedPut}
use Rattle.named_checkpoints.proofs.named_ceiling.Given as goal

abbrev pub invariant-loop-p : goal.invariant-loop-p
invariant-loop-p l = NamedPut l.names.table.bytes.now l.names.processes.now l.names.states.now l.ceiling (length l.yielded)
