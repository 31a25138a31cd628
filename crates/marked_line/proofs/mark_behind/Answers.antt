-- `mark_behind` meets its contract: process by process, the row behind its root is set.
use mathlib.Core.Path.{ap}
use native.Mathlib.Omega.{arith}
use Prim.Native.Nat.{◌+◌}
use Rattle.marked_line.proofs.RootLaws.{behind_begins, behind_more, behind_onwards, root_within}
use Rattle.tables.proofs.ReadLaws.{processes_few}
use Rattle.marked_line.proofs.mark_behind.Goals as goal

pub loop-p-init : goal.loop-p-init
loop-p-init c = behind_begins (processes_few _ c.args.layout.now.table.accepted) c.requires.lent c.process_count-n.ensures c.requires.unmarked

pub mark_from-requires : goal.mark_from-requires
mark_from-requires c =
    let over = c.loop-p.invariant.over in
    record {
      known = omega (arith, over.n_is);
      there = omega (arith, root_within over c.loop-p-test.true, c.from.ensures);
      room = over.lent.room;
      onwards = behind_onwards c.loop-p.invariant c.loop-p-test.true (ap (λ n. n + 1) c.from.ensures);
    }

pub loop-p-preserved : goal.loop-p-preserved
loop-p-preserved c = behind_more c.loop-p.invariant c.loop-p-test.true (ap (λ n. n + 1) c.from.ensures) c.mark_from.ensures
