-- A sweep over the messages, from the last to the first, as the loop of `sweep` goes.
--     Sweeps                        its invariant
--     sweep_lowers                  an orphan puts its receiver back
-- Assumes nothing.
use mathlib.Core.List.{List}
use Prim.Native.Nat.{ℕ, ◌+◌, ◌-◌, ◌≤◌, ◌<◌}
use native.Mathlib.Omega.{arith}
use lib.ListN.{get_or, set}
use Rattle.sweep.specs.Cursors.{Placed}
use Rattle.lowering.proofs.DownLaws.{MessageRead, down_more, down_put_back, message_is}
use Rattle.lowering.specs.Lowered.{BroughtDown, all_messages}
use Rattle.tables.specs.declared.messages.MessageParts.{MessageParts}

-- The sweep stands before message k. Its line was brought down from the start, and no more processes have stopped than it has gone over
-- messages.
pub record Sweeps (parts : MessageParts) (start line cursors : List ℕ) (stopped k : ℕ) : Type 0 where
  pub down : BroughtDown (all_messages parts) start line
  pub placed : Placed parts.count cursors
  pub within : stopped + k ≤ parts.count

module _ {parts : MessageParts} {start line cursors : List ℕ} {stopped k : ℕ} (w : Sweeps parts start line cursors stopped k) where
  pub sweep_lowers : {j y i r : ℕ} → MessageRead parts (k - 1) j y i r → 0 < r → get_or line j 0 ≤ y → r ≤ get_or line i 0
      → Sweeps parts start (set line i (r - 1)) cursors stopped (k - 1)
  sweep_lowers {j} {y} {i} {r} x d s b = record {
    down =
        down_more w.down
        (down_put_back line (k - 1) (record { sender = j; sent = y; receiver = i; received = r }) (message_is x)
        (record { delivered = d; sent_after = s; received-before = b }));
    placed = w.placed;
    within = omega (arith, w.within);
  }
