-- `Rollback::counts_left` meets its contract: each turn fills in the count that is left of a process.
-- Assumes nothing.
use native.Mathlib.Omega.{arith}
use mathlib.Core.Path.{sym, ◌∙◌}
use Rattle.steps.proofs.StepLaws.{rollback-processes}
use Rattle.rollback.proofs.RollbackLaws.{count_left, line_small}
use Rattle.tables.proofs.ArrayLaws.{filling_array, filling_more, filling_none}
use Rattle.tables.proofs.ReadLaws.{processes_few}
use Rattle.tables.specs.Table.{process_count}
use Rattle.rollback.proofs.Rollback.counts_left.Goals as goal

pub loop-p-init : goal.loop-p-init
unfolding process_count
loop-p-init c =
    (omega (arith, processes_few _ c.args.self.now.table.accepted, c.process_count-n.ensures), filling_none)

pub overflow_add-counts : goal.overflow_add-counts
unfolding process_count
overflow_add-counts c =
    omega (arith, line_small c.args.self.now.at_line {p = c.loop-p.p} (omega arith))

pub loop-p-preserved : goal.loop-p-preserved
unfolding process_count
loop-p-preserved c =
    (c.loop-p.invariant.0, filling_more c.loop-p.invariant.1 c.loop-p-test.true (count_left c.args.self.now.at_line (omega arith)))

pub returns : goal.returns
unfolding process_count
returns c =
    filling_array _ c.loop-p.invariant.1 c.loop-p-test.false (c.process_count-n.ensures ∙ sym (rollback-processes _))
