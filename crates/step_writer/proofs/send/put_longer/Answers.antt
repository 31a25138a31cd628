-- `send::put_longer` meets its contract: the array, then the entry.
-- Assumes nothing.
use Rattle.step_writer.proofs.SendLaws.{longer_put}
use Rattle.std.proofs.Common.{rules}
use Rattle.step_writer.proofs.send.put_longer.Goals as goal

pub returns : goal.returns
returns c =
    longer_put (record { room = search rules; array = c.copy_numbers.ensures; entry = c.put_entry.ensures })
