-- Of the code: the messages, as they are read off a table's parts, and lines that are brought down by them. Assumes
-- nothing.
use Rattle.std.specs.Prelude.{List, ◌≡◌, ℕ}
use Rattle.consistency.specs.Lines.{AtOrBelow, as_line}
use Rattle.consistency.specs.Lowering.{line_under}
use Rattle.tables.specs.Format.{message_at}
use Rattle.tables.specs.Lists.{tabulate}
use Rattle.tables.specs.Table.{Message}
use Rattle.tables.specs.declared.messages.MessageParts.{MessageParts}

-- The m messages of a part of sends and a part of receipts.
unfoldable pub messages_of : ℕ → List ℕ → List ℕ → List Message
messages_of m sends receipts = tabulate m (message_at sends receipts)

-- The same, of parts that go together.
abbrev pub all_messages : MessageParts → List Message
all_messages parts = messages_of parts.count parts.sends.now parts.receipts.now

-- A line was brought down from a start: it is at or below it, and the line under it is the same.
pub record BroughtDown (messages : List Message) (start line : List ℕ) : Type 0 where
  pub below : AtOrBelow (as_line line) (as_line start)
  pub same_line : line_under messages line ≡ line_under messages start
