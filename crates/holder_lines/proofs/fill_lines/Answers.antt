-- `fill_lines` meets its contract.
use native.Mathlib.Omega.{arith}
use Rattle.holder_lines.proofs.FillLaws.{lining_all, lining_mark, lining_more, lining_none}
use Rattle.holder_lines.proofs.fill_lines.Goals as goal

pub loop-k-init : goal.loop-k-init
loop-k-init c = lining_none c.args.table.accepted c.requires.table_in_bounds c.process_count-n.ensures c.propagating-propagates.ensures

pub line_of_holder-line-requires-clause-propagates_value : goal.line_of_holder-line-requires-clause-propagates_value
line_of_holder-line-requires-clause-propagates_value c = lining_mark c.loop-k.invariant (omega arith)

pub loop-k-preserved : goal.loop-k-preserved
loop-k-preserved c = lining_more c.loop-k.invariant c.loop-k-test.true c.line_of_holder-line.ensures c.store_numbers.ensures

pub returns : goal.returns
returns c = lining_all c.loop-k.invariant c.loop-k-test.false
