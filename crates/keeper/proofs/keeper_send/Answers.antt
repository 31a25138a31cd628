-- The outcome, as numbers.
use Rattle.keeper.proofs.OutcomeLaws.{told_holds}
use Rattle.keeper.proofs.keeper_send.Goals as goal

pub returns : goal.returns
returns c = record {
  outcome = rw (c.told.ensures.number, c.told.ensures.length) (c.send.ensures.outcome _);
  table = told_holds _ _ c.send.ensures.table _ c.told.ensures.number c.told.ensures.length;
}
