-- The checks of a table (docs/MANUAL.md, "Refusals"). Each is a test over the whole table, and the refusal is the
-- number of the first one, in checking order, that catches; 0 says that none does. Assumes nothing.
use Rattle.std.specs.Prelude.{Bool, true, cond, not, ◌&&◌, ◌||◌, List, [], ◌∷◌, ◌≡◌, ℕ, ◌≤◌}
use Rattle.std.specs.Prelude.{◌<◌, eqb, leb, ltb, length}
use Rattle.tables.specs.Format.{decode, messages_in, processes_in, table_length}
use Rattle.tables.specs.Lists.{any, any_below}
use Rattle.tables.specs.Table.{Message, Table, count_of, message_count, message_of, process_count}
use Rattle.tables.specs.Table.{most_checkpoints, most_messages, most_processes}

-- A check: whether it catches, and the number of its refusal.
pub record Check : Type 0 where
  pub caught : Bool
  pub number : ℕ

-- The number of the first check of a list that catches, or 0.
unfoldable pub first_caught : List Check → ℕ
first_caught [] = 0
first_caught (c ∷ rest) =
    let later = first_caught rest in
    cond c.caught c.number later

-- A number that is 0 or above a limit.
unfoldable pub outside : ℕ → ℕ → Bool
outside limit n = eqb n 0 || ltb limit n

-- 1. The table has fewer than 4 bytes.
unfoldable pub too_short : List ℕ → Bool
too_short bytes = ltb (length bytes) 4

-- 2. N is 0 or above 32.
unfoldable pub bad_process_count : List ℕ → Bool
bad_process_count bytes = outside most_processes (processes_in bytes)

-- 3. M is above 4,096.
unfoldable pub too_many_messages : List ℕ → Bool
too_many_messages bytes = ltb most_messages (messages_in bytes)

-- 4. The length differs from 4 + 2N + 8M.
unfoldable pub bad_length : List ℕ → Bool
bad_length bytes = not (eqb (length bytes) (table_length (processes_in bytes) (messages_in bytes)))

-- 5. A count is 0 or above 4,096.
unfoldable pub bad_count : ℕ → Bool
bad_count count = outside most_checkpoints count

-- 6. A sender or receiver is N or above.
unfoldable pub unknown_process : ℕ → Message → Bool
unknown_process n m = leb n m.sender || leb n m.receiver

-- 7. A message has the same sender and receiver.
unfoldable pub to_itself : Message → Bool
to_itself m = eqb m.sender m.receiver

-- 8. A send number is not below the sender's count.
unfoldable pub bad_send : Table → Message → Bool
bad_send t m = leb (count_of t m.sender) m.sent

-- 9. A receipt number is above the receiver's count.
unfoldable pub bad_receipt : Table → Message → Bool
bad_receipt t m = ltb (count_of t m.receiver) m.received

-- Two messages have one channel: the same sender and the same receiver.
unfoldable pub same_channel : Message → Message → Bool
same_channel m later = eqb m.sender later.sender && eqb m.receiver later.receiver

-- A message waits: it is undelivered. One that was received waits no more, saved or not.
unfoldable pub waits : Message → Bool
waits m = eqb m.received 0

-- A message is out of turn behind an earlier one of its channel: its send number is smaller; or it is received while
-- the earlier one waits; or both are received and its receipt number is smaller.
unfoldable pub out_of_turn : Message → Message → Bool
out_of_turn m later =
    ltb later.sent m.sent
    || ((waits m && not (waits later))
    || ((not (waits m) && not (waits later)) && ltb later.received m.received))

-- Of the messages at two positions below m, and of one channel, the later one is out of turn behind the earlier one.
unfoldable pub broken_below : ℕ → (ℕ → Message) → Bool
broken_below m message =
    any_below m (λ k. any_below k (λ q. same_channel (message q) (message k) && out_of_turn (message q) (message k)))

-- 23. A message is out of turn behind an earlier one of its channel.
unfoldable pub broken_channel : Table → Bool
broken_channel t = broken_below (message_count t) (message_of t)

-- The checks of a table, in checking order.
unfoldable pub table_checks : List ℕ → List Check
table_checks bytes =
    let t = decode bytes in
    record { caught = too_short bytes; number = 1 }
    ∷ record { caught = bad_process_count bytes; number = 2 }
    ∷ record { caught = too_many_messages bytes; number = 3 }
    ∷ record { caught = bad_length bytes; number = 4 }
    ∷ record { caught = any bad_count t.counts; number = 5 }
    ∷ record { caught = any (unknown_process (process_count t)) t.messages; number = 6 }
    ∷ record { caught = any to_itself t.messages; number = 7 }
    ∷ record { caught = any (bad_send t) t.messages; number = 8 }
    ∷ record { caught = any (bad_receipt t) t.messages; number = 9 }
    ∷ record { caught = broken_channel t; number = 23 }
    ∷ []

-- The refusal of a table: the first of these that catches.
unfoldable pub table_refusal : List ℕ → ℕ
table_refusal bytes = first_caught (table_checks bytes)

-- What each message of an accepted table satisfies: checks 6 to 9 catch nothing in it.
pub record GoodMessage (t : Table) (m : Message) : Type 0 where
  pub sender_known : m.sender < process_count t
  pub receiver_known : m.receiver < process_count t
  pub two_processes : m.sender ≡ m.receiver → ⊥
  pub sent_below : m.sent < count_of t m.sender
  pub received-within : m.received ≤ count_of t m.receiver

-- What two messages of one channel satisfy, the earlier one first: check 23 does not catch them.
pub record InTurn (m later : Message) : Type 0 where
  pub sends_rise : m.sent ≤ later.sent
  pub received-first : 0 < later.received → 0 < m.received
  pub receipts_rise : 0 < later.received → m.received ≤ later.received

-- A well formed table: a process at least, a checkpoint at least of each, and good messages. This is what lines, paths
-- and futures need of a table: they ask for no order of its messages.
pub record WellFormed (t : Table) : Type 0 where
  pub some_process : 0 < process_count t
  pub some_checkpoint : (p : ℕ) → p < process_count t → 0 < count_of t p
  pub good_messages : (k : ℕ) → k < message_count t → GoodMessage t (message_of t k)

-- The messages of each channel are in turn.
abbrev pub ChannelsInTurn : Table → Type 0
ChannelsInTurn t = (q k : ℕ) → q < k → k < message_count t → same_channel (message_of t q) (message_of t k)
    ≡ true
    → InTurn (message_of t q) (message_of t k)

-- An orderly table: well formed, with its channels in turn. This is what an accepted table satisfies, the limits apart.
pub record Orderly (t : Table) : Type 0 where
  pub well_formed : WellFormed t
  pub in_turn : ChannelsInTurn t

-- The limits of its numbers.
pub record Limits (t : Table) : Type 0 where
  pub processes_limit : process_count t ≤ most_processes
  pub messages_limit : message_count t ≤ most_messages
  pub counts_limit : (p : ℕ) → p < process_count t → count_of t p ≤ most_checkpoints

-- An accepted table: none of its checks catches.
pub record Accepted (bytes : List ℕ) : Type 0 where
  pub whole : length bytes ≡ table_length (process_count (decode bytes)) (message_count (decode bytes))
  pub well_formed : WellFormed (decode bytes)
  pub in_turn : ChannelsInTurn (decode bytes)
  pub limits : Limits (decode bytes)
