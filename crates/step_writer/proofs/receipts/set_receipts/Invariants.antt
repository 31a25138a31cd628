-- `receipts::set_receipts` meets its contract. The loop's invariant: with the numbers of the entries from this position on still to be set, the
-- part becomes what it is to be.
-- Assumes nothing.
use Rattle.step_writer.proofs.ListedLaws.{SettingReceipts}
use Rattle.step_writer.proofs.receipts.set_receipts.Given as goal

abbrev pub invariant-loop-position : goal.invariant-loop-position
invariant-loop-position l = SettingReceipts l.initial.receipts l.list l.number l.receipts l.position-index
