-- `put_numbers` meets its contract: each number is put behind the one before it, and at the end they are those of the slice.
use Rattle.std.proofs.Common.{arith, ap, ◌∙◌}
use Rattle.tables.proofs.ListLaws.{tabulate-get_or}
use Rattle.number_writer.proofs.WriteLaws.{numbers_all, numbers_more, written_none}
use Rattle.tables.specs.Numbers.{put_at, u16s}
use Rattle.number_writer.proofs.put_numbers.Goals as goal

pub loop-k-init : goal.loop-k-init
loop-k-init c = written_none _ _ _ _ _ (omega arith)

pub loop-k-preserved : goal.loop-k-preserved
loop-k-preserved c = numbers_more 2 _ c.loop-k.invariant c.loop-k-test.true c.put_u16.ensures

pub returns : goal.returns
returns c = numbers_all 2 _ c.loop-k.invariant c.loop-k-test.false ∙ ap (put_at _ _) (ap u16s (tabulate-get_or _ 0))
