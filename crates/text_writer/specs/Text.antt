-- Text in ASCII, and what it leaves in a buffer. Assumes nothing.
use Rattle.std.specs.Prelude.{cond, List, [], ◌∷◌, ◌++◌, ◌≡◌, ℕ, zero, suc, ◌+◌, ◌/◌, ◌%◌}
use Rattle.std.specs.Prelude.{◌<◌, ltb, length}

-- The decimal digits of a number, the most significant first, in so many steps; a step more than the number is enough.
unfoldable pub digits : ℕ → ℕ → List ℕ
digits zero n = []
digits (suc steps) n = cond (ltb n 10) ((48 + n) ∷ []) (digits steps (n / 10) ++ ((48 + n % 10) ∷ []))

-- A number in decimal.
unfoldable pub decimal : ℕ → List ℕ
decimal n = digits (suc n) n

-- The texts of a list's entries, one after another.
unfoldable pub each : {A : Type 0} → (A → List ℕ) → List A → List ℕ
each text [] = []
each text (x ∷ rest) = text x ++ each text rest

-- A field: one space and a number.
unfoldable pub field : ℕ → List ℕ
field n = 32 ∷ decimal n

-- A row: a word, its fields and a line feed.
unfoldable pub row : List ℕ → List ℕ → List ℕ
row word numbers = word ++ (each field numbers ++ (10 ∷ []))

-- Text laid over a buffer from a place on, as far as the buffer reaches; the rest is as it was.
unfoldable pub overlay : List ℕ → ℕ → List ℕ → List ℕ
overlay [] at text = []
overlay (b ∷ rest) zero [] = b ∷ rest
overlay (b ∷ rest) zero (c ∷ text) = c ∷ overlay rest zero text
overlay (b ∷ rest) (suc at) text = b ∷ overlay rest at text

-- Text was laid over a buffer from a place on, and the next place follows it.
pub record Laid (before after : List ℕ) (at : ℕ) (text : List ℕ) (next : ℕ) : Type 0 where
  pub contents : after ≡ overlay before at text
  pub place : next ≡ at + length text

-- A text has its place: laid from there on it ends below 2 ^ 32, so that the code can count its places.
abbrev pub Fits : ℕ → List ℕ → Type 0
Fits at text = at + length text < 4294967296
