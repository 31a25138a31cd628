-- `Rollback::count_remaining` meets its contract: what a message that stays, or goes, does to the count.
-- Assumes nothing.
use native.Mathlib.Omega.{arith}
use Rattle.tables.specs.Format.{checkpoint_at, message_at, process_at}
use Rattle.rollback.proofs.RollbackLaws.{counted-all, counted_fits, counted_goes, counted_none, counted_stays}
use Rattle.rollback.proofs.Rollback.count_remaining.Goals as goal
use Rattle.rollback.proofs.Rollback.count_remaining.Goals.{then-sent-self, else-sent-self}

pub loop-k-init : goal.loop-k-init
loop-k-init c = counted_none c.args.self.now.at_line c.messages-messages.ensures.count c.messages-messages.ensures.sends

pub overflow_add-remaining : goal.overflow_add-remaining
unfolding message_at process_at checkpoint_at
overflow_add-remaining c =
    omega (arith, counted_fits c.loop-k.invariant c.loop-k-test.true c.sender.ensures.number c.sent.ensures c.if-sent-self.true)

pub loop-k-preserved : goal.loop-k-preserved
unfolding message_at process_at checkpoint_at
loop-k-preserved c =
    let w = c.loop-k.invariant in
    let more = c.loop-k-test.true in
    elim c.if-sent-self.branch [
      | then-sent-self h ↦ rw h.remaining-is (counted_stays w more c.sender.ensures.number c.sent.ensures h.if-sent-self.true)
      | else-sent-self h ↦ rw h.remaining-is (counted_goes w more c.sender.ensures.number c.sent.ensures h.if-sent-self.false)
    ]

pub returns : goal.returns
returns c = counted-all c.loop-k.invariant c.loop-k-test.false
