-- Send, receive, checkpoint (save) and rollback (fall back) on tables (docs/MANUAL.md, "Steps"). The same steps serve
-- the calls and the futures. They are total: a step that is caught gives the table back. Numbers have no upper bound.
-- Assumes nothing.
use Rattle.std.specs.Prelude.{Bool, cond, false, not, ◌&&◌, ◌||◌, List, [], ◌∷◌, ◌++◌, map, ℕ}
use Rattle.std.specs.Prelude.{◌+◌, ◌-◌, eqb, leb, ltb, set}
use Rattle.consistency.specs.Ceilings.{recovery_line}
use Rattle.consistency.specs.Lines.{as_line}
use Rattle.tables.specs.Checks.{Check, first_caught, same_channel, waits}
use Rattle.tables.specs.Lists.{any, any_below, tabulate}
use Rattle.tables.specs.Table.{Message, Table, count_of, message_count, message_of, process_count, with_counts}
use Rattle.tables.specs.Table.{with_messages, with_receipt}

-- A step: a send from one process to another; a receipt, by a process, of the messages at a list of positions; a
-- checkpoint of a process after it received such messages; or a rollback of the whole run to its recovery line.
pub data Step : Type 0 where
  send : ℕ → ℕ → Step
  receive : ℕ → List ℕ → Step
  checkpoint : ℕ → List ℕ → Step
  rollback : Step

-- ---- send
-- 10. A process named is N or above. 11. A send names one process twice.
unfoldable pub send_checks : Table → ℕ → ℕ → List Check
send_checks t j i =
    record { caught = leb (process_count t) j || leb (process_count t) i; number = 10 }
    ∷ record { caught = eqb j i; number = 11 }
    ∷ []

-- The message of a send: (j, count of j − 1), (i, 0).
abbrev pub new_message : Table → ℕ → ℕ → Message
new_message t j i = record { sender = j; sent = count_of t j - 1; receiver = i; received = 0 }

-- It is added at the end of both arrays.
unfoldable pub after_send : Table → ℕ → ℕ → Table
after_send t j i = with_messages t (t.messages ++ (new_message t j i ∷ []))

-- ---- receive
-- A message waits for a process: it goes there and is undelivered.
unfoldable pub waits_for : ℕ → Message → Bool
waits_for i m = eqb m.receiver i && waits m

-- A position of M or above, or of a message that does not wait for the process.
unfoldable pub bad_position : Table → ℕ → ℕ → Bool
bad_position t i k = leb (message_count t) k || not (waits_for i (message_of t k))

-- An entry of a list that is not above the one before it.
unfoldable pub not_rising_after : ℕ → List ℕ → Bool
not_rising_after k [] = false
not_rising_after k (next ∷ rest) = leb next k || not_rising_after next rest

unfoldable pub not_rising : List ℕ → Bool
not_rising [] = false
not_rising (k ∷ rest) = not_rising_after k rest

-- A list passes over an older message of the channel of position k: one that waits and is not listed.
unfoldable pub passes_over : Table → List ℕ → ℕ → Bool
passes_over t list k =
    any_below k (λ q.
    (same_channel (message_of t q) (message_of t k) && waits (message_of t q)) && not (any (eqb q) list))

-- Of a receipt and of a checkpoint: 10. The process is N or above. 13. The list has a position of M or above, or not
-- above the one before it, or of a message not waiting for that process. 24. The list passes over an older waiting
-- message of the channel of one of its positions.
unfoldable pub receipt_checks : Table → ℕ → List ℕ → List Check
receipt_checks t i list =
    record { caught = leb (process_count t) i; number = 10 }
    ∷ record { caught = any (bad_position t i) list || not_rising list; number = 13 }
    ∷ record { caught = any (passes_over t list) list; number = 24 }
    ∷ []

-- A message after the receipt: the receipt number of a listed one becomes the count of the process.
unfoldable pub received_at : Table → ℕ → List ℕ → ℕ → Message
received_at t i list k =
    let m = message_of t k in
    cond (any (eqb k) list) (with_receipt m (count_of t i)) m

-- The listed messages are received, and unsaved as yet: nothing else changes.
unfoldable pub after_receipt : Table → ℕ → List ℕ → Table
after_receipt t i list = with_messages t (tabulate (message_count t) (received_at t i list))

-- ---- checkpoint
-- The listed messages are received, and the count grows by one: what was received since the last checkpoint, with the
-- old count as its receipt number, is saved thereby.
unfoldable pub after_checkpoint : Table → ℕ → List ℕ → Table
after_checkpoint t i list = with_counts (after_receipt t i list) (set t.counts i (count_of t i + 1))

-- ---- rollback
-- A message stays where it was sent before the line.
unfoldable pub stays : List ℕ → Message → Bool
stays l m = ltb m.sent (as_line l m.sender)

-- One that was received after the line is undelivered again; so is every unsaved one, as a count is above the recovery
-- line.
unfoldable pub put_back : List ℕ → Message → Message
put_back l m = cond (ltb (as_line l m.receiver) m.received) (with_receipt m 0) m

-- The messages that stay, in order.
unfoldable pub remaining : List ℕ → List Message → List Message
remaining l [] = []
remaining l (m ∷ rest) = cond (stays l m) (put_back l m ∷ remaining l rest) (remaining l rest)

-- With L the recovery line, each count becomes L + 1, and the messages that stay remain.
unfoldable pub after_rollback : Table → Table
after_rollback t =
    with_counts (with_messages t (remaining (recovery_line t) t.messages)) (map (λ c. c + 1) (recovery_line t))

-- ---- a step
-- A step that is caught leaves the table as it is.
unfoldable pub unless_caught : List Check → Table → Table → Table
unless_caught checks after before = cond (eqb (first_caught checks) 0) after before

unfoldable pub step : Table → Step → Table
step t (send j i) = unless_caught (send_checks t j i) (after_send t j i) t
step t (receive i list) = unless_caught (receipt_checks t i list) (after_receipt t i list) t
step t (checkpoint i list) = unless_caught (receipt_checks t i list) (after_checkpoint t i list) t
step t rollback = after_rollback t
