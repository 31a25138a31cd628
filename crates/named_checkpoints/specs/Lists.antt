-- Of the code: what its functions may assume of the two lists that name checkpoints. Assumes nothing.
use Rattle.std.specs.Prelude.{List, ◌≡◌, ℕ, ◌<◌, get_or, length}

-- They are of one length, and each process is below n.
pub record Parallel (n : ℕ) (processes states : List ℕ) : Type 0 where
  pub for_each : length states ≡ length processes
  pub known : (k : ℕ) → k < length processes → get_or processes k 0 < n
