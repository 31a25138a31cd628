-- `next_round` meets its contract: the roots give way, and all that is reachable from the new ones is marked.
use Rattle.marked_line.proofs.StageLaws.{gave_lent, gave_ready}
use Rattle.marked_line.proofs.next_round.Goals as goal

pub mark_reachable-requires : goal.mark_reachable-requires
mark_reachable-requires c = record {
  lent = gave_lent c.requires c.give_way-next.ensures;
  ready = gave_ready c.requires c.give_way-next.ensures;
}
