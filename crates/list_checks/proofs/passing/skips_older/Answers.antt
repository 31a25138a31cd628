-- `passing::skips_older` meets its contract: what an entry before the next position does to the marks, and what the mark of that position says.
-- Assumes nothing.
use mathlib.Core.Path.{sym, ◌∙◌}
use native.Mathlib.Nat.{le_refl}
use native.Mathlib.Omega.{arith}
use Rattle.list_checks.proofs.PassingLaws.{gone_all, gone_more, gone_none, marks_left, marks_more, marks_there, sender_within, skips_here, unlisted}
use Rattle.list_checks.proofs.passing.skips_older.Goals as goal
use Rattle.list_checks.proofs.passing.skips_older.Goals.{then-entry_waits, else-entry_waits}

pub loop-position-init : goal.loop-position-init
loop-position-init c = gone_none c.requires

-- ---- the entries before the position
pub bounds-skipped-sender : goal.bounds-skipped-sender
bounds-skipped-sender c = sender_within c.loop-position.invariant c.loop-position-test.true {k = c.loop-k.k} (omega arith) c.u16_at-sender.ensures

pub loop-k-preserved : goal.loop-k-preserved
loop-k-preserved c =
    let w = c.loop-position.invariant in
    let more = c.loop-position-test.true in
    elim c.if-entry_waits.branch [
      | then-entry_waits h ↦
          rw h.skipped-is
          (marks_more c.loop-k.invariant (sym c.entry_waits.ensures ∙ h.if-entry_waits.true) (unlisted w more _ c.loop-k.auto.k c.loop-k-test.true)
          h.u16_at-sender.ensures (sender_within w more (omega arith) h.u16_at-sender.ensures))
      | else-entry_waits h ↦ rw h.skipped-is (marks_left c.loop-k.invariant (sym c.entry_waits.ensures ∙ h.if-entry_waits.false))
    ]

-- ---- the position
pub bounds-skipped-listed_sender : goal.bounds-skipped-listed_sender
bounds-skipped-listed_sender c =
    sender_within c.loop-position.invariant c.loop-position-test.true (le_refl _) c.u16_at-listed_sender.ensures

pub returns-then-skipped-listed_sender : goal.returns-then-skipped-listed_sender
returns-then-skipped-listed_sender c =
    let w = c.loop-position.invariant in
    let more = c.loop-position-test.true in
    skips_here w more (marks_there w more c.loop-k-test.false c.loop-k.auto.k-end c.loop-k.invariant) c.u16_at-listed_sender.ensures
    c.if-skipped-listed_sender.true

pub loop-position-preserved : goal.loop-position-preserved
loop-position-preserved c =
    let w = c.loop-position.invariant in
    let more = c.loop-position-test.true in
    gone_more w more (marks_there w more c.loop-k-test.false c.loop-k.auto.k-end c.loop-k.invariant) c.u16_at-listed_sender.ensures
    c.if-skipped-listed_sender.false

pub returns : goal.returns
returns c = gone_all c.loop-position.invariant c.loop-position-test.false
