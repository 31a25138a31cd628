-- `Receipt::put_checkpoint` meets its contract: one checkpoint is taken.
-- Assumes nothing.
use Rattle.step_writer.proofs.ReceiptLaws.{checkpoint_put}
use Rattle.step_writer.proofs.receipts.Receipt.put_checkpoint.Goals as goal

pub returns : goal.returns
returns c =
    checkpoint_put _ _ _ _ c.put_received.ensures
