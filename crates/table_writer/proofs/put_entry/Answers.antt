-- `put_entry` meets its contract: one number after the other.
use Rattle.table_writer.proofs.TablePutLaws.{pair_put}
use Rattle.table_writer.proofs.put_entry.Goals as goal

pub returns : goal.returns
returns c = pair_put _ _ _ _ c.requires c.put_u16.ensures c.put_u16-2.ensures
