-- Messages that were received and are unsaved (docs/MANUAL.md, "Steps"): how they come to be so, and what the other
-- steps and the sheet make of them. Assumes nothing.
use Rattle.std.specs.Prelude.{true, ◌&&◌, List, [], ◌∷◌, ◌≡◌, ℕ, ◌+◌, ◌<◌}
use Rattle.consistency.specs.Ceilings.{holder_line, recovery_line}
use Rattle.consistency.specs.Lines.{as_line}
use Rattle.run_futures.specs.Futures.{FollowedTo, StillThere, end_of}
use Rattle.keep_sheet.specs.Sheet.{crosses, keeps_message}
use Rattle.steps.specs.Steps.{checkpoint, receipt_checks, receive, rollback, stays, step, waits_for}
use Rattle.tables.specs.Checks.{first_caught, same_channel, waits}
use Rattle.tables.specs.Lists.{any_below, select}
use Rattle.tables.specs.Table.{Table, count_of, message_count, message_of, process_count}

-- The message at a position is unsaved: its receiver received it since its last checkpoint.
unfoldable pub Unsaved : Table → ℕ → Type 0
Unsaved t k = (k < message_count t) × ((message_of t k).received ≡ count_of t (message_of t k).receiver)

-- The positions of the waiting messages of the channel of position k, up to k itself.
unfoldable pub waiting_up_to : Table → ℕ → List ℕ
waiting_up_to t k = select (λ q. same_channel (message_of t q) (message_of t k) && waits (message_of t q)) (k + 1)

-- A message that waits for a process is received in some future, with the older ones of its channel that wait, and is
-- there at its end, unsaved; alone, where no older one waits. Where one does, a receipt or a checkpoint of it alone
-- leaves the table. A receipt keeps every checkpoint, and every message at its position; one of nothing leaves the
-- table. An unsaved message stays as it is in a checkpoint of its receiver, and lies below the count then: it is saved.
-- A rollback leaves none; one whose send remains is there after it, undelivered. The sheet keeps one just where it
-- crosses the line of some single holder.
pub record Receipts (t : Table) : Type 0 where
  pub received : (i k : ℕ) → k < message_count t → waits_for i (message_of t k) ≡ true
      → Unsaved (end_of t (receive i (waiting_up_to t k) ∷ [])) k
  pub received_alone : (i k : ℕ) → k < message_count t → waits_for i (message_of t k) ≡ true
      → ((q : ℕ) → q < k → same_channel (message_of t q) (message_of t k) ≡ true
      → waits (message_of t q) ≡ true → ⊥)
      → Unsaved (end_of t (receive i (k ∷ []) ∷ [])) k
  pub passed_over : (i q k : ℕ) → q < k → same_channel (message_of t q) (message_of t k) ≡ true
      → waits (message_of t q) ≡ true
      → (step t (receive i (k ∷ [])) ≡ t) × (step t (checkpoint i (k ∷ [])) ≡ t)
  pub nothing_lost : (i : ℕ) (list : List ℕ) → ((p c : ℕ) → StillThere t (receive i list ∷ []) p c)
      × ((k : ℕ) → FollowedTo t (receive i list ∷ []) k k)
  pub of_nothing : (i : ℕ) → step t (receive i []) ≡ t
  pub saved : (i : ℕ) (list : List ℕ) → first_caught (receipt_checks t i list) ≡ 0 → (k : ℕ) → Unsaved t k
      → (message_of t k).receiver ≡ i → (message_of (step t (checkpoint i list)) k ≡ message_of t k)
      × ((message_of t k).received < count_of (step t (checkpoint i list)) i)
  pub rolled_back : (k : ℕ) → Unsaved (step t rollback) k → ⊥
  pub waits_again : (k : ℕ) → Unsaved t k → stays (recovery_line t) (message_of t k) ≡ true
      → (n : ℕ) × FollowedTo t (rollback ∷ []) k n × ((message_of (step t rollback) n).received ≡ 0)
  pub kept : (k : ℕ) → Unsaved t k → keeps_message t (message_of t k)
      ≡ any_below (process_count t) (λ h. crosses (as_line (holder_line t h)) (message_of t k))
