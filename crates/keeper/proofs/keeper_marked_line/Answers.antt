-- The outcome, as numbers.
use Rattle.keeper.proofs.OutcomeLaws.{told_holds}
use Rattle.keeper.proofs.keeper_marked_line.Goals as goal

pub returns : goal.returns
returns c = record {
  outcome = rw (c.told.ensures.number, c.told.ensures.length) (c.marked_line.ensures.outcome _);
  marks = rw c.told.ensures.number c.marked_line.ensures.marks;
  same = rw (c.told.ensures.number, c.told.ensures.length) (c.marked_line.ensures.same _);
  latest = told_holds _ _ c.marked_line.ensures.latest _ c.told.ensures.number c.told.ensures.length;
}
