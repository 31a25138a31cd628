-- Of the code: each message beside the one before it in its channel. A law says that this finds what all pairs of
-- positions do. Assumes nothing.
use Rattle.std.specs.Prelude.{Bool, cond, false, List, ◌≡◌, ℕ, zero, suc, ◌+◌, ◌*◌, ◌<◌, eqb}
use Rattle.std.specs.Prelude.{get_or, length}
use Rattle.tables.specs.Checks.{out_of_turn}
use Rattle.tables.specs.Format.{process_at}
use Rattle.tables.specs.Table.{Message}

-- The channel of entry k of the sends and the receipts, its two processes as one number.
unfoldable pub channel_at : List ℕ → List ℕ → ℕ → ℕ
channel_at sends receipts k = 32 * process_at sends k + process_at receipts k

-- Where the last message of a channel stands among the first k, one more than its position; 0: there is none.
unfoldable pub last_in : (ℕ → ℕ) → ℕ → ℕ → ℕ
last_in channel zero c = 0
last_in channel (suc k) c = cond (eqb (channel k) c) (suc k) (last_in channel k c)

-- Message k is out of turn behind the message that stands there.
unfoldable pub behind : (ℕ → Message) → ℕ → ℕ → Bool
behind message k zero = false
behind message k (suc q) = out_of_turn (message q) (message k)

-- Message k is out of turn behind the one before it in its channel.
unfoldable pub behind_neighbour : (ℕ → ℕ) → (ℕ → Message) → ℕ → Bool
behind_neighbour channel message k = behind message k (last_in channel k (channel k))

-- An array of the last messages of 1,024 channels among the first k.
pub record Lasts (channel : ℕ → ℕ) (k : ℕ) (last : List ℕ) : Type 0 where
  pub size : length last ≡ 1024
  pub places : (c : ℕ) → c < 1024 → get_or last c 0 ≡ last_in channel k c
