-- The loop stops at a message that a check catches, or that is out of turn.
use Rattle.run_table.proofs.ThroughLaws.{here, turned_all, turned_broken, turned_fault, turned_more, turned_none}
use Rattle.run_table.proofs.entries.Entries.first_caught.Goals as goal
use Rattle.std.proofs.Common.{sym, ◌∙◌}

pub loop-k-init : goal.loop-k-init
loop-k-init c = turned_none c.args.self.sized

pub returns-then-is_some : goal.returns-then-is_some
returns-then-is_some c = turned_fault c.loop-k.invariant c.loop-k-test.true c.fault_at.ensures (sym c.is_some.ensures ∙ c.if-is_some.true)

pub behind_neighbour-requires-clause-message_there : goal.behind_neighbour-requires-clause-message_there
behind_neighbour-requires-clause-message_there c =
    here c.loop-k.invariant c.loop-k-test.true c.fault_at.ensures (sym c.is_some.ensures ∙ c.if-is_some.false)

pub behind_neighbour-requires-clause-lasts : goal.behind_neighbour-requires-clause-lasts
behind_neighbour-requires-clause-lasts c = c.loop-k.invariant.lasts

pub returns-then-behind_neighbour : goal.returns-then-behind_neighbour
returns-then-behind_neighbour c =
    turned_broken c.loop-k.invariant c.loop-k-test.true c.fault_at.ensures (sym c.is_some.ensures ∙ c.if-is_some.false)
    (sym c.behind_neighbour.ensures.value ∙ c.if-behind_neighbour.true)

pub loop-k-preserved : goal.loop-k-preserved
loop-k-preserved c =
    turned_more c.loop-k.invariant c.loop-k-test.true c.fault_at.ensures (sym c.is_some.ensures ∙ c.if-is_some.false)
    (sym c.behind_neighbour.ensures.value ∙ c.if-behind_neighbour.false) c.behind_neighbour.ensures.lasts_2

pub returns : goal.returns
returns c = turned_all c.loop-k.invariant c.loop-k-test.false
