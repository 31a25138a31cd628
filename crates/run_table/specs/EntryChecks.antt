-- Of the code: what the loops of the checks read off a part of a table's bytes, entry by entry. The laws join these to
-- the checks of the table. Assumes nothing.
use Rattle.std.specs.Prelude.{Bool, true, false, cond, List, [], ◌∷◌, ◌++◌, map, ◌≡◌, ℕ, suc, ◌+◌}
use Rattle.std.specs.Prelude.{◌*◌, ◌≤◌, ◌<◌, eqb, leb, ltb, length, get_or}
use Rattle.tables.specs.Checks.{Check, bad_count, broken_below, first_caught}
use Rattle.tables.specs.Format.{checkpoint_at, count_at, message_at, process_at}
use Rattle.tables.specs.Lists.{any_below}
use Rattle.tables.specs.Table.{Message, most_messages, most_processes}
use Rattle.tables.specs.declared.refusal.Refusal.{Refusal}
use Rattle.tables.specs.declared.refusal.Refusal.TheVariants.{ChannelOutOfOrder, MessageToItsSender}
use Rattle.tables.specs.declared.refusal.Refusal.TheVariants.{ReceiptNumberTooHigh, SendNumberTooHigh}
use Rattle.tables.specs.declared.refusal.Refusal.TheVariants.{UnknownProcessInMessage}

-- Entry p of a part of counts is 0 or above 4,096.
unfoldable pub bad_count_at : List ℕ → ℕ → Bool
bad_count_at counts p = bad_count (count_at counts p)

-- Entry k of a part names a process of n or above.
unfoldable pub unknown_at : ℕ → List ℕ → ℕ → Bool
unknown_at n part k = leb n (process_at part k)

-- Entry k of the sends and of the receipts name one process.
unfoldable pub to_itself_at : List ℕ → List ℕ → ℕ → Bool
to_itself_at sends receipts k = eqb (process_at sends k) (process_at receipts k)

-- Entry k of a part names a checkpoint that is not below its process's count.
unfoldable pub not_below_at : List ℕ → List ℕ → ℕ → Bool
not_below_at counts part k = leb (count_at counts (process_at part k)) (checkpoint_at part k)

-- It names a number that is above its process's count.
unfoldable pub above_at : List ℕ → List ℕ → ℕ → Bool
above_at counts part k = ltb (count_at counts (process_at part k)) (checkpoint_at part k)

-- A check of messages: whether it catches message k, and its number.
pub record MessageCheck : Type 0 where
  pub catches : ℕ → Bool
  pub number : ℕ

-- Checks 6 to 9, on the parts of a table of n processes.
abbrev pub message_checks : ℕ → List ℕ → List ℕ → List ℕ → List MessageCheck
message_checks n counts sends receipts =
    record { catches = unknown_at n sends; number = 6 }
    ∷ record { catches = unknown_at n receipts; number = 6 }
    ∷ record { catches = to_itself_at sends receipts; number = 7 }
    ∷ record { catches = not_below_at counts sends; number = 8 }
    ∷ record { catches = above_at counts receipts; number = 9 }
    ∷ []

-- Their refusals.
abbrev pub message_refusals : List Refusal
message_refusals =
    UnknownProcessInMessage ∷ UnknownProcessInMessage ∷ MessageToItsSender ∷ SendNumberTooHigh ∷
    ReceiptNumberTooHigh
    ∷ []

-- The refusal by the check at a place; behind the last stands that of a message out of turn.
abbrev pub refusal_at : ℕ → Refusal
refusal_at place = get_or message_refusals place ChannelOutOfOrder

-- The place behind the last of them: none catches.
abbrev pub no_fault : ℕ
no_fault = 5

-- Such checks of message k alone.
abbrev pub checks_at : List MessageCheck → ℕ → List Check
checks_at checks k = map (λ c. record { caught = c.catches k; number = c.number }) checks

-- Such checks of m messages, each over all of them before the next.
abbrev pub checks_below : List MessageCheck → ℕ → List Check
checks_below checks m = map (λ c. record { caught = any_below m c.catches; number = c.number }) checks

-- The place, from 0, of the first check of a list that catches; the list's length where none does.
unfoldable pub first_place : List Check → ℕ
first_place [] = 0
first_place (c ∷ rest) = cond c.caught 0 (suc (first_place rest))

-- k is the first of m messages that such a check catches or that is out of turn behind an earlier one, or m.
pub record FirstMessage (checks : List MessageCheck) (message : ℕ → Message) (m k : ℕ) : Type 0 where
  pub within : k ≤ m
  pub quiet : length checks ≡ first_place (checks_below checks k)
  pub in_turn : broken_below k message ≡ false
  pub caught : k < m → first_place (checks_at checks k) ≡ length checks → broken_below (k + 1) message ≡ true

-- Checks 5 to 9 and 23, on the parts of a table of n processes and m messages.
abbrev pub parts_checks : ℕ → ℕ → List ℕ → List ℕ → List ℕ → List Check
parts_checks n m counts sends receipts =
    record { caught = any_below n (bad_count_at counts); number = 5 }
    ∷ (checks_below (message_checks n counts sends receipts) m
    ++ (record { caught = broken_below m (message_at sends receipts); number = 23 } ∷ []))

abbrev pub parts_refusal : ℕ → ℕ → List ℕ → List ℕ → List ℕ → ℕ
parts_refusal n m counts sends receipts = first_caught (parts_checks n m counts sends receipts)

-- The parts of such a table, where its sizes and its length are right.
pub record Sized (n m : ℕ) (counts sends receipts : List ℕ) : Type 0 where
  pub few_processes : n ≤ most_processes
  pub few_messages : m ≤ most_messages
  pub counts_size : length counts ≡ 2 * n
  pub sends_size : length sends ≡ 4 * m
  pub receipts_size : length receipts ≡ 4 * m
