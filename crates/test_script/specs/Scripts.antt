-- The lines of a script: their words, and lists that their numbers say. Assumes nothing.
use Rattle.std.specs.Prelude.{◌==◌, List, ℕ, ◌-◌, get_or, length}
use Rattle.std.specs.List.{before_first}

-- A line's word, which a blank ends.
abbrev pub word_of : List ℕ → List ℕ
word_of line = before_first (λ byte. byte == 32) line

-- Number k of a list that begins with some numbers: the last of them goes on to the end, and without one it is `none`.
abbrev pub extended : {A : Type 0} → A → List A → ℕ → A
extended none numbers k = get_or numbers k (get_or numbers (length numbers - 1) none)
