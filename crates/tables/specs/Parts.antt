-- Of the code: what it may assume of the parts of an accepted table's bytes. Assumes nothing.
use Rattle.std.specs.Prelude.{List, ◌≡◌, ℕ, ◌+◌, ◌*◌, ◌≤◌, ◌<◌, length}
use Rattle.tables.specs.Format.{count_at, process_at}
use Rattle.tables.specs.Table.{most_messages, most_processes}

-- n counts, each at least 1.
pub record Counts (n : ℕ) (counts : List ℕ) : Type 0 where
  pub few : n ≤ most_processes
  pub size : length counts ≡ 2 * n
  pub positive : (p : ℕ) → p < n → 0 < count_at counts p

-- The sends and the receipts of m messages between n processes.
pub record Messages (n m : ℕ) (sends receipts : List ℕ) : Type 0 where
  pub few : m ≤ most_messages
  pub sends_size : length sends ≡ 4 * m
  pub receipts_size : length receipts ≡ 4 * m
  pub senders_known : (k : ℕ) → k < m → process_at sends k < n
  pub receivers_known : (k : ℕ) → k < m → process_at receipts k < n

-- Message k of them: both its entries are there, with known processes.
pub record MessageThere (n k : ℕ) (sends receipts : List ℕ) : Type 0 where
  pub in_sends : 4 * k + 3 < length sends
  pub in_receipts : 4 * k + 3 < length receipts
  pub sender_known : process_at sends k < n
  pub receiver_known : process_at receipts k < n
