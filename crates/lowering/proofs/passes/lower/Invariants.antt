-- The invariant of the passes of `passes::lower`: the line was brought down from the ceiling, so that the line under both is the same. The
-- measure is the sum of the line, which a pass that lowers brings down. The invariant of one pass, which goes down from the last message:
-- the same of its line at the start; and until it lowers, none of the messages from k on is an orphan.
use Rattle.lowering.proofs.PassLaws.{LoweringPass}
use Rattle.lowering.specs.Lowered.{BroughtDown, all_messages}
use Rattle.tables.specs.Lists.{sum}
use Rattle.lowering.proofs.passes.lower.Given as goal

abbrev pub invariant-loop-k : goal.invariant-loop-k
invariant-loop-k l = LoweringPass l.messages l.initial.line l.line l.lowered l.k

abbrev pub invariant-passes : goal.invariant-passes
invariant-passes l = BroughtDown (all_messages l.messages) l.initial.line l.line

abbrev pub decreases-passes : goal.decreases-passes
decreases-passes l = sum l.line
