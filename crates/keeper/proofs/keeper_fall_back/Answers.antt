-- The outcome, as numbers.
use Rattle.keeper.proofs.OutcomeLaws.{told_holds}
use Rattle.keeper.proofs.keeper_fall_back.Goals as goal

pub returns : goal.returns
returns c = record {
  outcome = rw (c.told.ensures.number, c.told.ensures.length) (c.fall_back.ensures.outcome _);
  table = told_holds _ _ c.fall_back.ensures.table _ c.told.ensures.number c.told.ensures.length;
}
