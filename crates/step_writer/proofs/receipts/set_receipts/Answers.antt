-- `receipts::set_receipts` meets its contract: each turn sets the number of one listed entry.
-- Assumes nothing.
use native.Mathlib.Omega.{arith}
use Rattle.step_writer.proofs.ListedLaws.{setting_all, setting_more, setting_none}
use Rattle.step_writer.proofs.receipts.set_receipts.Goals as goal

pub loop-position-init : goal.loop-position-init
loop-position-init c = setting_none c.requires

pub loop-position-preserved : goal.loop-position-preserved
loop-position-preserved c = setting_more c.loop-position.invariant c.loop-position-test.true (omega arith) c.put_u16.ensures

pub returns : goal.returns
returns c = setting_all c.loop-position.invariant c.loop-position-test.false
