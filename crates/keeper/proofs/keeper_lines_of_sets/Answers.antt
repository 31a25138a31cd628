-- The outcome, as numbers.
use Rattle.keeper.proofs.OutcomeLaws.{told_holds}
use Rattle.keeper.proofs.keeper_lines_of_sets.Goals as goal

pub returns : goal.returns
returns c = record {
  outcome = rw (c.told.ensures.number, c.told.ensures.length) (c.lines_of_sets.ensures.outcome _);
  holders = rw c.told.ensures.number c.lines_of_sets.ensures.holders;
  each = told_holds _ _ c.lines_of_sets.ensures.each _ c.told.ensures.number c.told.ensures.length;
}
