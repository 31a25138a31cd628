-- The outcome, as numbers.
use Rattle.keeper.proofs.OutcomeLaws.{told_holds}
use Rattle.keeper.proofs.keeper_receive.Goals as goal

pub returns : goal.returns
returns c = record {
  outcome = rw (c.told.ensures.number, c.told.ensures.length) (c.receive.ensures.outcome _);
  table = told_holds _ _ c.receive.ensures.table _ c.told.ensures.number c.told.ensures.length;
}
