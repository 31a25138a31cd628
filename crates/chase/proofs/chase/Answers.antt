-- `chase` meets its contract.
use mathlib.Core.Path.{sym}
use Prim.Native.Nat.{◌-◌, ◌≤◌}
use lib.ListN.{get_or}
use native.Mathlib.Omega.{arith}
use Rattle.chase.proofs.BackLaws.{AtOrphan, back_begins, back_lowers, back_stacks, chase_begins, stack_room}
use Rattle.lowering.proofs.EveryLaws.{every_tabulate}
use Rattle.tables.specs.Lists.{tabulate}
use Rattle.chase.proofs.chase.Goals as goal
use Rattle.chase.proofs.chase.Goals.{Else-line-receiver}

pub sweep-requires : goal.sweep-requires
unfolding tabulate
sweep-requires c = record { placed = every_tabulate (λ k. k ≤ c.args.messages.count) 32 (λ _. 0) (omega arith) (λ _ _. omega arith) }

pub chase-init : goal.chase-init
unfolding tabulate
chase-init c =
    chase_begins c.sweep.ensures.brought_down c.requires.n_le_most_processes c.sweep.ensures.placed_2 c.every_process-stack.ensures

-- a process leaves the stack
pub back-init : goal.back-init
back-init c = back_begins c.chase.invariant c.chase-test.true c.last_sent-next.ensures

-- its message is an orphan
orphan : (c : Else-line-receiver)
    → AtOrphan c.args.messages c.chase.line (c.chase.height - 1) c.chase.cursors (get_or c.chase.stack (c.chase.height - 1) 0) c.back.line c.back.stack
    c.back.stacked c.back.height c.in-Some.k c.last_sent-next-in-Some.result c.sent.result c.receiver-receiver.result c.received-received.result
orphan c =
    let going = rw c.in-Some.is at c.back.invariant in
    record {
      going = going;
      next_sent = c.last_sent-next-in-Some.ensures;
      message = record {
        there = going.sent.0;
        sender = sym going.sent.1;
        sent = c.sent.ensures;
        receiver = c.receiver-receiver.ensures.number;
        received = c.received-received.ensures;
      };
      sent_after = c.if-sent-fallen.false;
      delivered = c.if-received-eq0.false;
      received-before = c.if-line-receiver.false;
    }

pub back-preserved-then-stacked-receiver : goal.back-preserved-then-stacked-receiver
back-preserved-then-stacked-receiver c = back_lowers (orphan (goal.at.back-preserved-then-stacked-receiver c).Else-line-receiver)

-- its receiver is not on the stack
pub bounds-stack-height-in-Some : goal.bounds-stack-height-in-Some
bounds-stack-height-in-Some c =
    stack_room (orphan (goal.at.bounds-stack-height-in-Some c).Else-line-receiver) c.receiver-receiver.ensures.known c.if-stacked-receiver.false

pub back-preserved : goal.back-preserved
back-preserved c =
    back_stacks (orphan (goal.at.back-preserved c).Else-line-receiver) c.receiver-receiver.ensures.known c.if-stacked-receiver.false
