-- The outcome, as numbers.
use Rattle.keeper.proofs.OutcomeLaws.{told_holds}
use Rattle.keeper.proofs.keeper_save.Goals as goal

pub returns : goal.returns
returns c = record {
  outcome = rw (c.told.ensures.number, c.told.ensures.length) (c.save.ensures.outcome _);
  table = told_holds _ _ c.save.ensures.table _ c.told.ensures.number c.told.ensures.length;
}
