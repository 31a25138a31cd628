-- What a call leaves in a guarded buffer, and what is around it. Assumes nothing.
use Rattle.std.specs.Prelude.{Bool, true, false, cond, ◌&&◌, List, ◌⊎◌, ◌≡◌, length, get_or}
use Rattle.std.specs.Prelude.{ℕ, ◌+◌, ◌-◌, ◌*◌, ◌≤◌, ◌<◌, eqb, leb}

-- The guards in front of a room; the bytes of the guarded buffer, and of the largest room in it.
abbrev pub guards : ℕ
guards = 16

abbrev pub space_size : ℕ
space_size = 33000

abbrev pub most_room : ℕ
most_room = space_size - 2 * guards

-- Where the answer of a call that returned a number ends: there is none under a refusal, or if it were longer than its
-- room.
unfoldable pub answer_end : ℕ → ℕ → ℕ → ℕ
answer_end number written room = cond (eqb number 0 && leb written room) (guards + written) guards

-- The answer of a test whether every byte in front of a place and from another one on is a guard.
pub record Guarded (buffer : List ℕ) (from to : ℕ) (answer : Bool) : Type 0 where
  pub kept : answer ≡ true → (i : ℕ) → (i < from) ⊎ (to ≤ i) → i < length buffer
      → get_or buffer i 0 ≡ 165
  pub changed : answer ≡ false
      → (i : ℕ) × ((i < from) ⊎ (to ≤ i)) × (i < length buffer) × (get_or buffer i 0 ≡ 165 → ⊥)
