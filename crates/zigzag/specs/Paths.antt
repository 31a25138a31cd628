-- Zigzag paths between the checkpoints of a run (docs/MANUAL.md, "Checkpoints that stand together"; Definition 1 of the
-- source), from the table alone. Assumes nothing.
--
-- The source writes C_{p,i} for checkpoint i of process p, and numbers each interval by the checkpoint that begins it.
-- So a message with send number y is sent in interval y of its sender, and after C_{p,i} where i is at most y. Its
-- receipt number r is that of the first checkpoint after the receipt: it is received in interval r − 1, and before
-- C_{q,j} where r is at most j. An unsaved message, whose r is the count, is received in the last interval.
use Rattle.std.specs.Prelude.{◌≡◌, ℕ, ◌-◌, ◌≤◌, ◌<◌}
use Rattle.tables.specs.Table.{Message, Table, message_of}

-- The interval of its receiver in which a message is received.
unfoldable pub received_in : Message → ℕ
received_in m = m.received - 1

-- Condition (1): a message that is received, sent by process p after C_{p,i}.
pub record Begins (p i : ℕ) (m : Message) : Type 0 where
  pub delivered : 0 < m.received
  pub by_process : m.sender ≡ p
  pub after : i ≤ m.sent

-- Condition (2): the next message is received too, and sent by the receiver of the one before it, in the same interval
-- as that one's receipt or in a later one. In the same interval it may be sent before that receipt.
pub record GoesOn (m next : Message) : Type 0 where
  pub delivered : 0 < next.received
  pub by_receiver : next.sender ≡ m.receiver
  pub same_or_later : received_in m ≤ next.sent

-- Condition (3): a message received by process q before C_{q,j}.
pub record Ends (m : Message) (q j : ℕ) : Type 0 where
  pub by_process : m.receiver ≡ q
  pub before : m.received ≤ j

-- Messages m₁ .. mₙ, n at least 1, of which the first is as (1) asks of C_{p,i}, and each next one as (2) asks. The
-- last of them stands at this position.
pub data Chain (t : Table) (p i : ℕ) : ℕ → Type 0 where
  first : (k : ℕ) → Begins p i (message_of t k) → Chain t p i k
  then : {k : ℕ} → Chain t p i k → (next : ℕ) → GoesOn (message_of t k) (message_of t next)
      → Chain t p i next

-- A zigzag path leads from C_{p,i} to C_{q,j}: there are such messages, and the last is as (3) asks. From a checkpoint
-- to itself it is a zigzag cycle.
pub record Zigzag (t : Table) (p i q j : ℕ) : Type 0 where
  pub last : ℕ
  pub chain : Chain t p i last
  pub ends : Ends (message_of t last) q j
