-- Futures and what they need (docs/MANUAL.md, "The keep sheet"). A future is a finite list of steps; each takes what
-- the one before it left, and nobody else changes the table in between. It is told of the recovery line and of the
-- steps, and of nothing else. Assumes nothing.
use Rattle.std.specs.Prelude.{cond, List, [], ◌∷◌, ◌⊎◌, ◌≡◌, ℕ, ◌≤◌, ◌<◌, length, take}
use Rattle.consistency.specs.Ceilings.{recovery_line}
use Rattle.consistency.specs.Lines.{as_line}
use Rattle.steps.specs.Steps.{Step, checkpoint, receive, remaining, rollback, send, stays, step}
use Rattle.tables.specs.Table.{Table, count_of, message_count, message_of}

-- A future: any finite list of steps, the empty one included.
abbrev pub Future : Type 0
Future = List Step

-- The table at the end of a future.
unfoldable pub end_of : Table → Future → Table
end_of t [] = t
end_of t (s ∷ rest) = end_of (step t s) rest

-- ---- checkpoints that are still there
-- A rollback keeps checkpoint c of process i unless it goes to a line below c at i. Other steps keep every checkpoint.
unfoldable pub StepKeeps : Table → Step → ℕ → ℕ → Type 0
StepKeeps t (send j i') i c = Unit {0}
StepKeeps t (receive i' list) i c = Unit {0}
StepKeeps t (checkpoint i' list) i c = Unit {0}
StepKeeps t rollback i c = c ≤ as_line (recovery_line t) i

-- Checkpoint c of process i is still there at the end.
unfoldable pub StillThere : Table → Future → ℕ → ℕ → Type 0
StillThere t [] i c = Unit {0}
StillThere t (s ∷ rest) i c = StepKeeps t s i c × StillThere (step t s) rest i c

-- ---- messages that are still there
-- Where a message stands: at a position, or nowhere any more.
pub data Place : Type 0 where
  at_position : ℕ → Place
  gone : Place

-- A rollback moves the message at position k to the number of messages before it that stay, or removes it. Other steps
-- leave it.
unfoldable pub moved : Table → Step → ℕ → Place
moved t (send j i) k = at_position k
moved t (receive i list) k = at_position k
moved t (checkpoint i list) k = at_position k
moved t rollback k =
    cond (stays (recovery_line t) (message_of t k))
    (at_position (length (remaining (recovery_line t) (take k t.messages)))) gone

-- Where a message that stands at a place is at the end.
unfoldable pub place_of : Table → Future → Place → Place
place_of t [] place = place
place_of t (s ∷ rest) gone = gone
place_of t (s ∷ rest) (at_position k) = place_of (step t s) rest (moved t s k)

-- The message at position k of the first table is still there, at position k' of the last one.
unfoldable pub FollowedTo : Table → Future → ℕ → ℕ → Type 0
FollowedTo t future k k' = place_of t future (at_position k) ≡ at_position k'

-- ---- what a future needs, with E the table at its end and L the recovery line of E
-- Checkpoint c of process i of the first table, where it is still there and L of i is c.
pub record NeedsCheckpoint (t : Table) (future : Future) (i c : ℕ) : Type 0 where
  pub a_checkpoint : c < count_of t i
  pub still_there : StillThere t future i c
  pub on_the_line : as_line (recovery_line (end_of t future)) i ≡ c

-- The message at position k of the first table, where it is still there, as (j, y) to (i, r) in E, and y < L of j, and
-- r is 0 or above L of i.
pub record NeedsMessage (t : Table) (future : Future) (k : ℕ) : Type 0 where
  pub a_message : k < message_count t
  pub position : ℕ
  pub still_there : FollowedTo t future k position
  pub sent_before : (message_of (end_of t future) position).sent
      < as_line (recovery_line (end_of t future)) (message_of (end_of t future) position).sender
  pub not_received : ((message_of (end_of t future) position).received ≡ 0)
      ⊎ (as_line (recovery_line (end_of t future)) (message_of (end_of t future) position).receiver
      < (message_of (end_of t future) position).received)

-- Some future needs it.
unfoldable pub CheckpointNeeded : Table → ℕ → ℕ → Type 0
CheckpointNeeded t i c = (future : Future) × NeedsCheckpoint t future i c

unfoldable pub MessageNeeded : Table → ℕ → Type 0
MessageNeeded t k = (future : Future) × NeedsMessage t future k
