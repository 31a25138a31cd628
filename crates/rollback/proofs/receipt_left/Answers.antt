-- A receipt above the line is undone, and another one stays.
use Rattle.rollback.proofs.RollbackLaws.{receipt_kept, receipt_undone}
use Rattle.rollback.proofs.receipt_left.Goals as goal

pub returns-then-height-received : goal.returns-then-height-received
returns-then-height-received c = receipt_undone _ _ c.if-height-received.true

pub returns : goal.returns
returns c = receipt_kept _ _ c.if-height-received.false
