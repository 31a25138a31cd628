-- The outcome, as numbers.
use Rattle.keeper.proofs.keeper_stand_together.Goals as goal

pub returns : goal.returns
returns c = record {
  outcome = rw (c.told.ensures.number, c.told.ensures.length) (c.stand_together.ensures.outcome _);
  zigzag = λ none. rw (c.told.ensures.number, c.told.ensures.length) (c.stand_together.ensures.zigzag none _);
}
