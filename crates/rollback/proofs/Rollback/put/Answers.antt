-- `Rollback::put` meets its contract: the head with the counts that are left, and the messages that stay.
-- Assumes nothing.
use native.Mathlib.Omega.{arith}
use mathlib.Core.Path.{◌≡◌, refl, sym, ◌∙◌}
use lib.ListN.{length, take}
use lib.Seq.{length-take-le}
use Rattle.steps.proofs.StepLaws.{rollback_fewer, rollback-processes}
use Rattle.tables.proofs.ReadLaws.{messages_few, processes_few}
use Rattle.table_writer.proofs.TablePutLaws.{table_put}
use Rattle.rollback.proofs.RollbackLaws.{counts_front}
use Rattle.tables.specs.Format.{decode}
use Rattle.rollback.proofs.Rollback.put.Goals as goal
use Rattle.rollback.proofs.Rollback.put.Goals.{After-counts_left-counts}

-- the first N counts are a list of N
front : (c : After-counts_left-counts) → length (take c.process_count-n.result c.counts_left-counts.result) ≡ c.process_count-n.result
front c = length-take-le _ _ (omega (arith, processes_few _ c.args.self.now.table.accepted))

-- ---- the head
pub slice_bounds-counts-end : goal.slice_bounds-counts-end
slice_bounds-counts-end c = omega (arith, processes_few _ c.args.self.now.table.accepted)

pub slice_bounds-put_head-end : goal.slice_bounds-put_head-end
slice_bounds-put_head-end c = sym (front (goal.at.slice_bounds-put_head-end c).After-counts_left-counts)

pub put_head-requires-clause-m_bound : goal.put_head-requires-clause-m_bound
put_head-requires-clause-m_bound c =
    omega (arith, rollback_fewer (decode c.args.self.now.table.bytes.now), messages_few _ c.args.self.now.table.accepted)

-- ---- the messages
pub sends_at-requires : goal.sends_at-requires
sends_at-requires c = omega (arith, processes_few _ c.args.self.now.table.accepted)

pub returns : goal.returns
returns c =
    let n = c.process_count-n.ensures in
    table_put _ _ _ _ _ _ (n ∙ sym (rollback-processes _)) c.requires.m_value (counts_front c.args.self.now.at_line c.counts_left-counts.ensures n) refl refl
    _ _ _ _
    (omega (arith, c.requires.m_in_bounds, n)) (rw (front (goal.at.returns c).After-counts_left-counts) at c.put_head.ensures) refl
    (rw c.sends_at.ensures at c.put_messages.ensures)
