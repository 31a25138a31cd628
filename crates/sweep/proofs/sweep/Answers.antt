-- `sweep` meets its contract.
use native.Mathlib.Omega.{arith}
use Rattle.sweep.proofs.SweepLaws.{sweep_lowers}
use Rattle.sweep.proofs.sweep.Goals as goal

-- an orphan
pub loop-k-preserved : goal.loop-k-preserved
loop-k-preserved c =
    sweep_lowers c.loop-k.invariant
    record {
      there = omega arith;
      sender = c.sender-sender.ensures.number;
      sent = c.sent-sent.ensures;
      receiver = c.receiver-receiver.ensures.number;
      received = c.received-received.ensures;
    }
    (omega arith) c.if-sent-line.false c.if-line-receiver.false
