-- `receipts::put_receipts` meets its contract: the receipts are copied, and the listed ones set in their place.
-- Assumes nothing.
use Rattle.step_writer.proofs.ListedLaws.{listed_put}
use Rattle.step_writer.proofs.receipts.put_receipts.Goals as goal

pub returns : goal.returns
returns c =
    listed_put (record {
      room = c.requires.m_in_bounds;
      copy = c.copy_numbers.ensures;
      set_there = c.set_receipts.ensures;
      same_length = c.set_receipts.auto.receipts;
    })
