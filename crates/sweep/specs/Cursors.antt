-- Of the code: cursors, by process. Assumes nothing.
use Rattle.std.specs.Prelude.{List, ℕ, ◌≤◌, get_or}

-- Cursors stand among m messages: before one of them, or behind the last.
abbrev pub Placed : ℕ → List ℕ → Type 0
Placed m cursors = (p : ℕ) → get_or cursors p 0 ≤ m
