-- `propagation::propagating` meets its contract.
use native.Mathlib.Omega.{arith}
use Prim.Native.Nat.{◌<◌}
use Rattle.holder_lines.proofs.PropagationLaws.{NextSend, seen_marks, seen_none, skips_sent_before, skips_undelivered}
use Rattle.tables.specs.Format.{count_at, message_at, process_at}
use Rattle.holder_lines.proofs.propagation.propagating.Goals as goal
use Rattle.holder_lines.proofs.propagation.propagating.Goals.{After-sent-sent, After-u16_at-last}

pub loop-k-init : goal.loop-k-init
loop-k-init c = seen_none c.args.messages c.args.counts.now

-- the count of the sender
known : (c : After-sent-sent) → c.sender-sender.result < c.requires.processes
unfolding message_at process_at
known c = omega (arith, c.sender-sender.ensures.number, c.requires.messages.senders_known _ c.loop-k-test.true)

pub u16_at-last-requires : goal.u16_at-last-requires
u16_at-last-requires c = omega (arith, known (goal.at.u16_at-last-requires c).After-sent-sent)

pub overflow_sub-last : goal.overflow_sub-last
unfolding count_at
overflow_sub-last c =
    omega (arith, c.u16_at-last.ensures, c.requires.counted.positive _ (known (goal.at.overflow_sub-last c).After-sent-sent))

-- the loop is at its next message
next : (c : After-u16_at-last)
    → NextSend c.args.messages c.args.counts.now c.loop-k.propagates c.loop-k.k c.sender-sender.result c.sent-sent.result c.u16_at-last.result
next c = record { seen = c.loop-k.invariant; sender = c.sender-sender.ensures.number; sent = c.sent-sent.ensures; count_read = c.u16_at-last.ensures }

pub loop-k-preserved-then-sent-last : goal.loop-k-preserved-then-sent-last
loop-k-preserved-then-sent-last c = skips_sent_before (next (goal.at.loop-k-preserved-then-sent-last c).After-u16_at-last) c.if-sent-last.true

pub loop-k-preserved-then-received-eq0 : goal.loop-k-preserved-then-received-eq0
loop-k-preserved-then-received-eq0 c =
    skips_undelivered (next (goal.at.loop-k-preserved-then-received-eq0 c).After-u16_at-last) c.received.ensures c.if-received-eq0.true

pub loop-k-preserved : goal.loop-k-preserved
loop-k-preserved c =
    seen_marks (next (goal.at.loop-k-preserved c).After-u16_at-last) c.received.ensures c.sender-sender.ensures.known c.if-sent-last.false
    c.if-received-eq0.false
