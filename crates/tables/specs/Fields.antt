-- Of the code: the numbers of a message, by name. Assumes nothing.
use Rattle.std.specs.Prelude.{ℕ}
use Rattle.tables.specs.Table.{Message}
use Rattle.tables.specs.declared.lookups.Field.{Field}
use Rattle.tables.specs.declared.lookups.Field.TheVariants.{Received, Receiver, Sender, Sent}

-- The number of a message that a field names.
abbrev pub number_of : Field → Message → ℕ
number_of Sender m = m.sender
number_of Sent m = m.sent
number_of Receiver m = m.receiver
number_of Received m = m.received
