-- Of the code: whether a rollback of a process to its last checkpoint propagates. Where none of a set's members does,
-- the set's line is its ceiling, and the code makes no pass. Assumes nothing.
use Rattle.std.specs.Prelude.{Bool, ◌&&◌, List, ℕ, ◌-◌, eqb, leb, ltb}
use Rattle.tables.specs.Format.{count_at, message_at}
use Rattle.tables.specs.Lists.{any_below}
use Rattle.tables.specs.Parts.{Counts, Messages}
use Rattle.tables.specs.Table.{Message, Table, count_of, message_count, message_of}

-- A rollback of its sender to the sender's last checkpoint orphans a message: it was sent after that checkpoint,
-- and received.
unfoldable pub orphaned : (ℕ → ℕ) → Message → Bool
orphaned count m = leb (count m.sender - 1) m.sent && ltb 0 m.received

-- A rollback of process p to its last checkpoint propagates: it orphans some message that the process sent. First by
-- counts and the messages below m; then of a table, and of the parts of one.
unfoldable pub propagates : (ℕ → ℕ) → ℕ → (ℕ → Message) → ℕ → Bool
propagates count m message p = any_below m (λ k. eqb (message k).sender p && orphaned count (message k))

unfoldable pub propagates_from : Table → ℕ → Bool
propagates_from t p = propagates (count_of t) (message_count t) (message_of t) p

unfoldable pub propagates_at : ℕ → List ℕ → List ℕ → List ℕ → ℕ → Bool
propagates_at m counts sends receipts p = propagates (count_at counts) m (message_at sends receipts) p

-- A part of counts of some processes, and parts of sends and receipts of m messages between them.
pub record CountedMessages (m : ℕ) (counts sends receipts : List ℕ) : Type 0 where
  pub processes : ℕ
  pub counted : Counts processes counts
  pub messages : Messages processes m sends receipts
