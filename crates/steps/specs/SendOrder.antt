-- The order in which a table has the messages of a sender (docs/MANUAL.md, "Steps"). No check asks for it and no
-- contract cites it: steps keep it, and a search for orphans by sender lives on it. Assumes nothing.
use Rattle.std.specs.Prelude.{◌≡◌, ℕ, ◌≤◌, ◌<◌}
use Rattle.tables.specs.Table.{Message, Table, message_count, message_of}

-- Two messages, the earlier position first, are in the order sent: if one process sent both, to whichever receivers,
-- the send number of the later one is not smaller.
abbrev pub InSendOrder : Message → Message → Type 0
InSendOrder m later = m.sender ≡ later.sender → m.sent ≤ later.sent

-- The messages of each sender are in the order sent: its send numbers never fall with the position.
abbrev pub SentInOrder : Table → Type 0
SentInOrder t = (q k : ℕ) → q < k → k < message_count t → InSendOrder (message_of t q) (message_of t k)
