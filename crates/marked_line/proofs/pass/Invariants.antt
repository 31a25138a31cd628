-- `pass` meets its contract. The invariant: all that is marked is reachable, and where nothing was marked no message from k on leads to an unmarked state
-- (`MarkPassing`).
use Rattle.marked_line.proofs.MarkPassLaws.{MarkPassing}
use Rattle.marked_line.proofs.pass.Given as goal

abbrev pub invariant-loop-k : goal.invariant-loop-k
invariant-loop-k l =
    MarkPassing l.layout.table.bytes.now l.roots l.initial.marks l.marks l.marked l.messages.count l.messages.sends.now l.messages.receipts.now l.k
