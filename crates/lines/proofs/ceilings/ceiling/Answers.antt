-- `ceilings::ceiling` meets its contract.
use native.Mathlib.Omega.{arith}
use Rattle.lines.proofs.LineReads.{height_beyond, height_read}
use Rattle.tables.proofs.ArrayLaws.{filling_all, filling_more}
use Rattle.tables.specs.Format.{count_at}
use Rattle.lines.proofs.ceilings.ceiling.Goals as goal

pub height-requires : goal.height-requires
unfolding count_at
height-requires c = omega (arith, c.u16_at.ensures, c.requires.positive _ c.loop-p-test.true)

pub loop-p-preserved : goal.loop-p-preserved
loop-p-preserved c =
    filling_more c.loop-p.invariant c.loop-p-test.true
    (height_read _ c.loop-p-test.true c.u16_at.ensures _ c.is_member.ensures c.height.ensures)

pub returns : goal.returns
returns c = filling_all c.loop-p.invariant c.loop-p-test.false (height_beyond _ _ _)
