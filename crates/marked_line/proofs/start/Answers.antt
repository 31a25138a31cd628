-- `start` meets its contract: the marks are cleared, the states behind the ceilings marked, and then all that is reachable.
use Rattle.marked_line.proofs.StageLaws.{given_few, running_starts, starts_lent, starts_ready, starts_unmarked}
use Rattle.tables.proofs.AcceptLaws.{facts}
use Rattle.tables.proofs.ReadLaws.{processes_few}
use Rattle.marked_line.proofs.start.Goals as goal

pub number_array-roots-requires : goal.number_array-roots-requires
number_array-roots-requires c = given_few (processes_few _ c.args.layout.now.table.accepted) c.requires

pub mark_behind-requires : goal.mark_behind-requires
mark_behind-requires c =
    let few = processes_few _ c.args.layout.now.table.accepted in
    record {
      lent = starts_lent few c.requires c.number_array-roots.ensures c.size.ensures c.clear.ensures;
      unmarked = starts_unmarked few c.requires c.number_array-roots.ensures c.size.ensures c.clear.ensures;
    }

pub mark_reachable-requires : goal.mark_reachable-requires
mark_reachable-requires c =
    let (lent, ready) =
    starts_ready (processes_few _ c.args.layout.now.table.accepted) c.requires c.number_array-roots.ensures c.size.ensures c.clear.ensures
    (facts _ c.args.layout.now.table.accepted).well_formed c.mark_behind.ensures.kept c.mark_behind.ensures.only_behind in
    record { lent = lent; ready = ready }

pub returns : goal.returns
returns c =
    running_starts (processes_few _ c.args.layout.now.table.accepted) c.requires c.number_array-roots.ensures c.size.ensures c.clear.ensures
    (facts _ c.args.layout.now.table.accepted).well_formed c.mark_behind.ensures.kept c.mark_behind.ensures.only_behind c.mark_reachable.ensures
