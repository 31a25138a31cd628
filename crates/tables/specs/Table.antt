-- Messages and tables, free of bytes (docs/MANUAL.md, "The run table"). The definitions hold for numbers of any size.
-- Assumes nothing.
use Rattle.std.specs.Prelude.{List, ℕ, length, get_or}
use Rattle.tables.specs.Lists.{sum}

-- A message: its sender and the latest checkpoint that the sender took before sending; its receiver and the first
-- checkpoint that the receiver took after receiving. 0 there says that the message is undelivered (waiting); the
-- receiver's count, that it was received since the last checkpoint and is unsaved (received, not yet saved).
pub record Message : Type 0 where
  pub sender : ℕ
  pub sent : ℕ
  pub receiver : ℕ
  pub received : ℕ

-- A message with another receipt number.
abbrev pub with_receipt : Message → ℕ → Message
with_receipt m n = record { sender = m.sender; sent = m.sent; receiver = m.receiver; received = n }

-- A run: for each process its count of checkpoints, numbered from 0; and its messages, by position.
pub record Table : Type 0 where
  pub counts : List ℕ
  pub messages : List Message

-- A table is built of its parts by one of these: of all of them; of another table, with other counts; with other
-- messages.
abbrev pub table_of : List ℕ → List Message → Table
table_of counts messages = record { counts = counts; messages = messages }

abbrev pub with_counts : Table → List ℕ → Table
with_counts t counts = table_of counts t.messages

abbrev pub with_messages : Table → List Message → Table
with_messages t messages = table_of t.counts messages

-- The limits that an accepted table keeps: of N, of M, and of each count.
abbrev pub most_processes : ℕ
most_processes = 32

abbrev pub most_messages : ℕ
most_messages = 4096

abbrev pub most_checkpoints : ℕ
most_checkpoints = 4096

-- N, the number of processes.
unfoldable pub process_count : Table → ℕ
process_count t = length t.counts

-- M, the number of messages.
unfoldable pub message_count : Table → ℕ
message_count t = length t.messages

-- The count of a process; 0 beyond the last one.
unfoldable pub count_of : Table → ℕ → ℕ
count_of t p = get_or t.counts p 0

-- How many checkpoints a run holds, of all its processes.
unfoldable pub checkpoint_total : Table → ℕ
checkpoint_total t = sum t.counts

-- What stands beyond the last message: one that is undelivered, with every number 0.
abbrev pub no_message : Message
no_message = record { sender = 0; sent = 0; receiver = 0; received = 0 }

-- The message at a position.
unfoldable pub message_of : Table → ℕ → Message
message_of t k = get_or t.messages k no_message
