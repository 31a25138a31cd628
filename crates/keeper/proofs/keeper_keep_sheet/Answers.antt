-- The outcome, as numbers.
use Rattle.keeper.proofs.OutcomeLaws.{told_holds}
use Rattle.keeper.proofs.keeper_keep_sheet.Goals as goal

pub returns : goal.returns
returns c = record {
  outcome = rw (c.told.ensures.number, c.told.ensures.length) (c.keep_sheet.ensures.outcome _);
  lines = c.keep_sheet.ensures.lines;
  demand = told_holds _ _ c.keep_sheet.ensures.demand _ c.told.ensures.number c.told.ensures.length;
}
