-- A turn passes by the number of its line, or finds it; what is found at the end is the first.
use Rattle.sheet_entries.proofs.checkpoints.next_kept.Goals as goal
use Rattle.sheet_entries.proofs.checkpoints.next_kept.Goals.{After-loop-k, else-from-checkpoint, then-from-checkpoint+then-checkpoint-least}
use Rattle.sheet_entries.proofs.checkpoints.next_kept.Goals.{else-from-checkpoint-via-then-from-checkpoint+else-checkpoint-least}
use Rattle.sheet_entries.proofs.checkpoints.next_kept.Goals.{else-from-checkpoint-via-else-from-checkpoint}
use Rattle.sheet_entries.specs.Kept.{shows}
use Rattle.std.proofs.Common.{arith, ◌≡◌}
use Rattle.tables.proofs.SelectLaws.{search_begins, search_ends, search_finds, search_passes}

pub loop-k-init : goal.loop-k-init
loop-k-init c = search_begins c.requires.from_le_count

pub loop-k-preserved : goal.loop-k-preserved
loop-k-preserved c =
    elim c.if-from-checkpoint.branch [
      | then-from-checkpoint+then-checkpoint-least w ↦
          rw w.least-is
          (search_finds c.loop-k.invariant c.loop-k-test.true c.number-checkpoint.ensures w.if-from-checkpoint.true w.if-checkpoint-least.true)
      | else-from-checkpoint w ↦
          rw w.least-is (elim w.else-from-checkpoint.branch [
            | else-from-checkpoint-via-then-from-checkpoint+else-checkpoint-least v ↦
                search_passes c.loop-k.invariant c.loop-k-test.true c.number-checkpoint.ensures (λ b. v.if-checkpoint-least.false)
            | else-from-checkpoint-via-else-from-checkpoint v ↦
                search_passes c.loop-k.invariant c.loop-k-test.true c.number-checkpoint.ensures (λ b. omega (arith, v.if-from-checkpoint.false))
          ])
    ]

pub returns-then-least-count : goal.returns-then-least-count
unfolding shows
returns-then-least-count c = (search_ends c.loop-k.invariant c.loop-k-test.false, c.if-least-count.true)

pub returns-else-least-count : goal.returns-else-least-count
unfolding shows
returns-else-least-count c =
    let same : c.loop-k.least ≡ c.args.count = omega (arith, c.loop-k.invariant.below) in
    rw same at (search_ends c.loop-k.invariant c.loop-k-test.false)
