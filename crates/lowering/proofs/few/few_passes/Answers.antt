-- `few::few_passes` meets its contract.
use native.Mathlib.Omega.{arith}
use Rattle.lowering.proofs.DownLaws.{down_more}
use Rattle.lowering.proofs.PassLaws.{NextInPass, pass_lowers, pass_settles}
use Rattle.lowering.proofs.PassLaws.{skips_received_after, skips_sent_before, skips_undelivered}
use Rattle.lowering.proofs.few.few_passes.Goals as goal
use Rattle.lowering.proofs.few.few_passes.Goals.{After-received-received}

-- the pass is at its next message
next : (c : After-received-received)
    → NextInPass c.args.messages c.passes.line c.loop-k.line c.loop-k.lowered c.loop-k.k c.sender-sender.result c.sent-sent.result
    c.receiver-receiver.result c.received-received.result
next c = record {
  passing = c.loop-k.invariant;
  message = record {
    there = omega arith;
    sender = c.sender-sender.ensures.number;
    sent = c.sent-sent.ensures;
    receiver = c.receiver-receiver.ensures.number;
    received = c.received-received.ensures;
  };
}

-- it is no orphan
pub loop-k-preserved-then-received-eq0 : goal.loop-k-preserved-then-received-eq0
loop-k-preserved-then-received-eq0 c =
    skips_undelivered (next (goal.at.loop-k-preserved-then-received-eq0 c).After-received-received) c.if-received-eq0.true

pub loop-k-preserved-then-sent-line : goal.loop-k-preserved-then-sent-line
loop-k-preserved-then-sent-line c =
    skips_sent_before (next (goal.at.loop-k-preserved-then-sent-line c).After-received-received) c.if-sent-line.true

pub loop-k-preserved-then-line-receiver : goal.loop-k-preserved-then-line-receiver
loop-k-preserved-then-line-receiver c =
    skips_received_after (next (goal.at.loop-k-preserved-then-line-receiver c).After-received-received) c.if-line-receiver.true

-- it is one
pub loop-k-preserved : goal.loop-k-preserved
loop-k-preserved c =
    pass_lowers (next (goal.at.loop-k-preserved c).After-received-received) c.if-received-eq0.false c.if-sent-line.false
    c.if-line-receiver.false

-- no orphan was left
pub returns-then-not-lowered-clause-settled : goal.returns-then-not-lowered-clause-settled
returns-then-not-lowered-clause-settled c = (
  down_more c.passes.invariant c.loop-k.invariant.down,
  pass_settles c.passes.invariant c.loop-k.invariant c.loop-k-test.false c.if-not-lowered.true,
)
