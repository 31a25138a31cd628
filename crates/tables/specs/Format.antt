-- The bytes of a run table (docs/MANUAL.md, "The run table"): N, M, the counts, then two parallel arrays of M entries
-- each, sends and receipts. An entry is two numbers, a process and a checkpoint. Reading is total: what stands beyond
-- the end is 0. Assumes nothing.
use Rattle.std.specs.Prelude.{List, [], ◌∷◌, ◌++◌, ℕ, ◌+◌, ◌*◌, length, take, drop}
use Rattle.tables.specs.Lists.{tabulate}
use Rattle.tables.specs.Numbers.{u16_at, u16s}
use Rattle.tables.specs.Table.{Message, Table, most_messages, most_processes, table_of}

-- N and M, as the bytes give them.
unfoldable pub processes_in : List ℕ → ℕ
processes_in bytes = u16_at bytes 0

unfoldable pub messages_in : List ℕ → ℕ
messages_in bytes = u16_at bytes 2

-- Where the parts of a table of n processes and m messages begin: the counts behind the two sizes, n of them; then the
-- sends, and the receipts, each m entries of 4 bytes.
abbrev pub counts_at : ℕ
counts_at = 4

abbrev pub sends_at : ℕ → ℕ
sends_at n = counts_at + 2 * n

abbrev pub receipts_at : ℕ → ℕ → ℕ
receipts_at n m = sends_at n + 4 * m

-- Its number of bytes, 4 + 2n + 8m.
abbrev pub table_length : ℕ → ℕ → ℕ
table_length n m = receipts_at n m + 4 * m

-- The number of bytes of the largest table.
abbrev pub largest_table : ℕ
largest_table = table_length most_processes most_messages

-- The three parts of a table's bytes: the counts, the sends and the receipts.
unfoldable pub counts_part : List ℕ → List ℕ
counts_part bytes = take (2 * processes_in bytes) (drop counts_at bytes)

unfoldable pub sends_part : List ℕ → List ℕ
sends_part bytes = take (4 * messages_in bytes) (drop (sends_at (processes_in bytes)) bytes)

unfoldable pub receipts_part : List ℕ → List ℕ
receipts_part bytes = take (4 * messages_in bytes) (drop (receipts_at (processes_in bytes) (messages_in bytes)) bytes)

-- Entry p of a part of counts.
unfoldable pub count_at : List ℕ → ℕ → ℕ
count_at counts p = u16_at counts (2 * p)

-- The process and the checkpoint of entry k of a part of sends or of receipts.
unfoldable pub process_at : List ℕ → ℕ → ℕ
process_at part k = u16_at part (4 * k)

unfoldable pub checkpoint_at : List ℕ → ℕ → ℕ
checkpoint_at part k = u16_at part (4 * k + 2)

-- The message of entry k of the two parallel arrays.
unfoldable pub message_at : List ℕ → List ℕ → ℕ → Message
message_at sends receipts k = record {
  sender = process_at sends k;
  sent = checkpoint_at sends k;
  receiver = process_at receipts k;
  received = checkpoint_at receipts k;
}

-- The table that the bytes give.
unfoldable pub decode : List ℕ → Table
decode bytes =
    table_of (tabulate (processes_in bytes) (count_at (counts_part bytes)))
    (tabulate (messages_in bytes) (message_at (sends_part bytes) (receipts_part bytes)))

-- The numbers of one array, entry after entry: a process and a checkpoint of each message.
unfoldable pub entries_of : (Message → ℕ) → (Message → ℕ) → List Message → List ℕ
entries_of process checkpoint [] = []
entries_of process checkpoint (m ∷ rest) = process m ∷ checkpoint m ∷ entries_of process checkpoint rest

abbrev pub sends_of : List Message → List ℕ
sends_of = entries_of (λ m. m.sender) (λ m. m.sent)

abbrev pub receipts_of : List Message → List ℕ
receipts_of = entries_of (λ m. m.receiver) (λ m. m.received)

-- The bytes of a table.
unfoldable pub encode : Table → List ℕ
encode t =
    u16s (length t.counts ∷ length t.messages
    ∷ (t.counts ++ (sends_of t.messages ++ receipts_of t.messages)))
