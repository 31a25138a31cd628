-- The first number that a line has at the process is the least.
use Rattle.std.proofs.Common.{sym}
use Rattle.sheet_entries.proofs.SearchLaws.{lowest_found}
use Rattle.sheet_entries.specs.Kept.{lowest_line}
use Rattle.tables.proofs.ArrayLaws.{filling_array, filling_more}
use Rattle.tables.proofs.ListLaws.{length-tabulate}
use Rattle.sheet_entries.proofs.messages.lowest_line.Goals as goal

pub loop-i-preserved : goal.loop-i-preserved
loop-i-preserved c =
    filling_more c.loop-i.invariant c.loop-i-test.true (lowest_found _ c.loop-i-test.true c.next_kept.result c.next_kept.ensures c.unwrap_or.ensures)

pub returns : goal.returns
unfolding lowest_line
returns c = filling_array _ c.loop-i.invariant c.loop-i-test.false (sym (length-tabulate _ _))
