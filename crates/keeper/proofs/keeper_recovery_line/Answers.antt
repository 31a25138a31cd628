-- The outcome, as numbers.
use Rattle.keeper.proofs.OutcomeLaws.{told_holds}
use Rattle.keeper.proofs.keeper_recovery_line.Goals as goal

pub returns : goal.returns
returns c = record {
  outcome = rw (c.told.ensures.number, c.told.ensures.length) (c.recovery_line.ensures.outcome _);
  latest = told_holds _ _ c.recovery_line.ensures.latest _ c.told.ensures.number c.told.ensures.length;
}
