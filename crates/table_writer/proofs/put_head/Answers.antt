-- `put_head` meets its contract: the sizes, then the counts.
use Rattle.table_writer.proofs.TablePutLaws.{head_put}
use Rattle.table_writer.proofs.put_head.Goals as goal

pub returns : goal.returns
returns c = head_put _ _ _ c.requires.counts_in_bounds c.put_entry.ensures c.put_numbers.ensures
