-- What is still there at the end of a future, said of the whole list of its steps (docs/MANUAL.md, "The keep sheet"):
-- what the definitions that go step by step, `StillThere` and `FollowedTo`, have to agree with. Assumes nothing.
use Rattle.std.specs.Prelude.{[], ◌∷◌, ◌++◌, ◌↔◌, ◌≡◌, ℕ, ◌≤◌, ◌<◌}
use Rattle.consistency.specs.Ceilings.{recovery_line}
use Rattle.consistency.specs.Lines.{Line, as_line}
use Rattle.run_futures.specs.Futures.{FollowedTo, Future, StillThere, end_of}
use Rattle.steps.specs.Steps.{Step, rollback, step}
use Rattle.tables.specs.Table.{Message, Table, count_of, message_count, message_of, with_receipt}

-- Two messages are the same but for their receipts.
abbrev pub SameMessage : Message → Message → Type 0
SameMessage m m' = with_receipt m' 0 ≡ with_receipt m 0

-- A claim holds of each line that a rollback in the list goes to: wherever the list is some steps, a rollback and the
-- rest, of the recovery line of the table that those steps leave.
unfoldable pub EachLine : Table → Future → (Line → Type 0) → Type 0
EachLine t future Claim = (front rest : Future) → future ≡ front ++ (rollback ∷ rest)
    → Claim (as_line (recovery_line (end_of t front)))

-- A line is not below c at i.
abbrev pub NotBelow : ℕ → ℕ → Line → Type 0
NotBelow i c l = c ≤ l i

-- A message (j, y) to (i, r) was sent before a line: y is below it at j.
abbrev pub SentBefore : Message → Line → Type 0
SentBefore m l = m.sent < l m.sender

-- Checkpoint c of process i is still there unless a rollback in the list went to a line below c at i. A message is
-- still there, at whatever position, unless a rollback in the list removed it, as one does before whose line it was not
-- sent. What is still there is in the last table: a message with the sender, send number and receiver that it had,
-- messages in their order. So after one rollback a checkpoint at or below the recovery line is still there, and none
-- above it; a message sent before the line, and no other. Such a message is as it was, but undelivered again where it
-- was received after the line. A step that is no rollback, a caught one too, keeps every checkpoint, and every message
-- at its position.
pub record Survival (t : Table) : Type 0 where
  pub checkpoints : (future : Future) (i c : ℕ) → StillThere t future i c ↔ EachLine t future (NotBelow i c)
  pub checkpoints_in : (future : Future) (i c : ℕ) → c < count_of t i → StillThere t future i c
      → c < count_of (end_of t future) i
  pub messages : (future : Future) (k : ℕ) → k < message_count t
      → ((k' : ℕ) × FollowedTo t future k k') ↔ EachLine t future (SentBefore (message_of t k))
  pub messages_within : (future : Future) (k k' : ℕ) → k < message_count t → FollowedTo t future k k'
      → (k' < message_count (end_of t future)) × SameMessage (message_of t k) (message_of (end_of t future) k')
  pub messages_order : (future : Future) (a b a' b' : ℕ) → a < b → b < message_count t
      → FollowedTo t future a a' → FollowedTo t future b b' → a' < b'
  pub rolled_checkpoint : (i c : ℕ) → StillThere t (rollback ∷ []) i c ↔ NotBelow i c
      (as_line (recovery_line t))
  pub rolled_message : (k : ℕ) → k < message_count t
      → ((n : ℕ) × FollowedTo t (rollback ∷ []) k n) ↔ SentBefore (message_of t k) (as_line (recovery_line t))
  pub rolled_receipt : (k n : ℕ) → k < message_count t → FollowedTo t (rollback ∷ []) k n
      → ((message_of t k).received ≤ as_line (recovery_line t) (message_of t k).receiver
      → message_of (step t rollback) n ≡ message_of t k)
      × (as_line (recovery_line t) (message_of t k).receiver < (message_of t k).received
      → message_of (step t rollback) n ≡ with_receipt (message_of t k) 0)
  pub nothing_lost : (s : Step) → (s ≡ rollback → ⊥)
      → ((i c : ℕ) → StillThere t (s ∷ []) i c) × ((k : ℕ) → FollowedTo t (s ∷ []) k k)
