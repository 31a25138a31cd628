-- A count is bad where it is 0 or above 4,096.
use Rattle.run_table.proofs.ScanLaws.{bad_is}
use Rattle.run_table.proofs.checks.bad_count.Goals as goal
use Rattle.run_table.proofs.checks.bad_count.Goals.{then-count-eq0-via-else-count-eq0+then-count-gt-MOST_CHECKPOINTS}
use Rattle.run_table.proofs.checks.bad_count.Goals.{then-count-eq0-via-then-count-eq0}
use Rattle.tables.proofs.CheckLaws.{inside, outside_above, outside_zero}
use Rattle.tables.proofs.SearchedLaws.{searched_all, searched_here, searched_more, searched_none}

pub loop-p-init : goal.loop-p-init
loop-p-init c = searched_none

pub returns-then-count-eq0 : goal.returns-then-count-eq0
returns-then-count-eq0 c =
    searched_here c.loop-p.invariant c.loop-p-test.true
    (bad_is _ _ c.u16_at-count.ensures (elim c.then-count-eq0.branch [
      | then-count-eq0-via-then-count-eq0 w ↦ outside_zero _ _ w.if-count-eq0.true
      | then-count-eq0-via-else-count-eq0+then-count-gt-MOST_CHECKPOINTS w ↦ outside_above _ _ w.if-count-gt-MOST_CHECKPOINTS.true
    ]))

pub loop-p-preserved : goal.loop-p-preserved
loop-p-preserved c =
    searched_more c.loop-p.invariant c.loop-p-test.true
    (bad_is _ _ c.u16_at-count.ensures (inside _ _ c.if-count-eq0.false c.if-count-gt-MOST_CHECKPOINTS.false))

pub returns : goal.returns
returns c = searched_all c.loop-p.invariant c.loop-p-test.false
