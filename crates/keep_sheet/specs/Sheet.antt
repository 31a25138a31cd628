-- The keep sheet (docs/MANUAL.md, "The keep sheet"): retained checkpoints and message logs, from the lines of single
-- holders. Assumes nothing.
use Rattle.std.specs.Prelude.{Bool, ◌&&◌, ◌||◌, List, ◌∷◌, ◌++◌, map, ℕ, eqb, ltb, length}
use Rattle.consistency.specs.Ceilings.{holder_line}
use Rattle.consistency.specs.Lines.{Line, as_line}
use Rattle.tables.specs.Lists.{any_below, rows, select}
use Rattle.tables.specs.Numbers.{u16s}
use Rattle.tables.specs.Table.{Message, Table, count_of, message_count, message_of, process_count}

-- Checkpoint c of process i is kept when c is below the count of i and some single holder's line has c at i.
unfoldable pub keeps_checkpoint : Table → ℕ → ℕ → Bool
keeps_checkpoint t i c = ltb c (count_of t i) && any_below (process_count t) (λ k. eqb (as_line (holder_line t k) i) c)

-- A message crosses a line: y < L of its sender, and L of its receiver < r.
unfoldable pub crosses : Line → Message → Bool
crosses l m = ltb m.sent (l m.sender) && ltb (l m.receiver) m.received

-- A message is kept when it is undelivered, or when it crosses some single holder's line.
unfoldable pub keeps_message : Table → Message → Bool
keeps_message t m = eqb m.received 0 || any_below (process_count t) (λ k. crosses (as_line (holder_line t k)) m)

-- A checkpoint: its process and its number.
pub record Checkpoint : Type 0 where
  pub process : ℕ
  pub number : ℕ

-- The kept checkpoints, by process and then number.
unfoldable pub kept_checkpoints : Table → List Checkpoint
kept_checkpoints t =
    rows (λ i. map (λ c. record { process = i; number = c }) (select (keeps_checkpoint t i) (count_of t i)))
    (process_count t)

-- The positions of the kept messages, rising.
unfoldable pub kept_messages : Table → List ℕ
kept_messages t = select (λ k. keeps_message t (message_of t k)) (message_count t)

-- The bytes of the sheet: K and Q; the two parallel arrays of K, process and number (state); the Q positions.
unfoldable pub sheet : Table → List ℕ
sheet t =
    u16s (length (kept_checkpoints t) ∷ length (kept_messages t)
    ∷ (map (λ k. k.process) (kept_checkpoints t) ++ (map (λ k. k.number) (kept_checkpoints t) ++ kept_messages t)))
