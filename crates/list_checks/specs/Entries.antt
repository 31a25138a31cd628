-- Of the code: what the checks of a list ask of the sends and the receipts, entry by entry. Assumes nothing.
use Rattle.std.specs.Prelude.{Bool, false, not, ◌&&◌, ◌||◌, List, ◌≡◌, ℕ, ◌+◌, ◌*◌, ◌<◌}
use Rattle.std.specs.Prelude.{eqb, leb, length, get_or}
use Rattle.steps.specs.Steps.{not_rising}
use Rattle.tables.specs.Format.{checkpoint_at, process_at}
use Rattle.tables.specs.Lists.{any, any_below}
use Rattle.tables.specs.Table.{most_processes}

-- An entry of a part of receipts waits for a process: it goes there and is undelivered.
unfoldable pub entry_waits : List ℕ → ℕ → ℕ → Bool
entry_waits receipts i k = eqb (process_at receipts k) i && eqb (checkpoint_at receipts k) 0

-- A position of m or above, or of an entry that does not wait for the process.
unfoldable pub bad_entry : List ℕ → ℕ → ℕ → ℕ → Bool
bad_entry receipts m i k = leb m k || not (entry_waits receipts i k)

-- Entry q is skipped: it is from process p, waits for process i, and is not listed.
unfoldable pub entry_skipped : List ℕ → List ℕ → ℕ → List ℕ → ℕ → ℕ → Bool
entry_skipped sends receipts i list p q =
    (eqb (process_at sends q) p && entry_waits receipts i q) && not (any (eqb q) list)

-- An older entry that has the sender of entry k is skipped.
unfoldable pub skips_older : List ℕ → List ℕ → ℕ → List ℕ → ℕ → Bool
skips_older sends receipts i list k = any_below k (entry_skipped sends receipts i list (process_at sends k))

-- A rising list of entries of sends and receipts, with senders that have a place in an array.
pub record ListedEntries (sends receipts list : List ℕ) : Type 0 where
  pub same_size : length receipts ≡ length sends
  pub there : (a : ℕ) → a < length list → 4 * get_or list a 0 + 3 < length sends
  pub senders_known : (k : ℕ) → 4 * k + 3 < length sends → process_at sends k < most_processes
  pub rises : not_rising list ≡ false
