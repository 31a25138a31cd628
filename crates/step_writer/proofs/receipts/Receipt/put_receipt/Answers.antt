-- `Receipt::put_receipt` meets its contract: no checkpoint is taken.
-- Assumes nothing.
use Rattle.step_writer.proofs.ReceiptLaws.{receipt_put}
use Rattle.step_writer.proofs.receipts.Receipt.put_receipt.Goals as goal

pub returns : goal.returns
returns c =
    receipt_put _ _ _ _ c.put_received.ensures
