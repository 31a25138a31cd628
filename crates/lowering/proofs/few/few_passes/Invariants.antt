-- The invariants of `few::few_passes`: those of `passes::lower`.
use Rattle.lowering.proofs.PassLaws.{LoweringPass}
use Rattle.lowering.specs.Lowered.{BroughtDown, all_messages}
use Rattle.lowering.proofs.few.few_passes.Given as goal

abbrev pub invariant-loop-k : goal.invariant-loop-k
invariant-loop-k l = LoweringPass l.messages l.initial.line l.line l.lowered l.k

abbrev pub invariant-passes : goal.invariant-passes
invariant-passes l = BroughtDown (all_messages l.messages) l.initial.line l.line
