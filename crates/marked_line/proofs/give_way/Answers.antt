-- `give_way` meets its contract: each process below p has its latest unmarked state.
use Rattle.marked_line.proofs.RootLaws.{giving_none, over_known, root_within}
use Rattle.marked_line.specs.Marking.{ZeroUnmarked}
use Rattle.tables.proofs.ReadLaws.{processes_few}
use Rattle.marked_line.proofs.give_way.Goals as goal

pub loop-p-init : goal.loop-p-init
loop-p-init c = giving_none (processes_few _ c.args.layout.now.table.accepted) c.requires.lent c.process_count-n.ensures

pub latest_unmarked-requires : goal.latest_unmarked-requires
unfolding ZeroUnmarked
latest_unmarked-requires c =
    let over = c.loop-p.invariant.over in
    let known = over_known over c.loop-p-test.true in
    record {
      known = known;
      there = root_within over c.loop-p-test.true;
      room = over.lent.room;
      zero_unmarked = c.requires.zero_unmarked c.loop-p.p known;
    }
