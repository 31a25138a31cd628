-- The outcome, as numbers.
use Rattle.keeper.proofs.OutcomeLaws.{told_holds}
use Rattle.keeper.proofs.keeper_line_of_set.Goals as goal

pub returns : goal.returns
returns c = record {
  outcome = rw (c.told.ensures.number, c.told.ensures.length) (c.line_of_set.ensures.outcome _);
  latest = told_holds _ _ c.line_of_set.ensures.latest _ c.told.ensures.number c.told.ensures.length;
}
