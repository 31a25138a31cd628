-- The computed line (docs/MANUAL.md, "Lines"): rollback propagation. Assumes nothing.
use Rattle.std.specs.Prelude.{Bool, cond, ◌&&◌, List, [], ◌∷◌, ℕ, zero, suc, ◌-◌, leb, ltb, set}
use Rattle.consistency.specs.Lines.{as_line}
use Rattle.tables.specs.Lists.{sum}
use Rattle.tables.specs.Table.{Message}

-- Whether a message is an orphan of a line.
unfoldable pub is_orphan : Message → List ℕ → Bool
is_orphan m l =
    ltb 0 m.received && (leb (as_line l m.sender) m.sent && leb m.received (as_line l m.receiver))

-- An orphan puts its receiver back to r − 1.
unfoldable pub lower : Message → List ℕ → List ℕ
lower m l = cond (is_orphan m l) (set l m.receiver (m.received - 1)) l

-- A pass over the messages, from the last to the first.
unfoldable pub pass : List Message → List ℕ → List ℕ
pass [] l = l
pass (m ∷ rest) l = lower m (pass rest l)

-- Some number of passes.
unfoldable pub passes : ℕ → List Message → List ℕ → List ℕ
passes zero messages l = l
passes (suc n) messages l = passes n messages (pass messages l)

-- The line under a ceiling: as many passes as the ceiling's sum, since a pass that lowers anything lowers the sum, and
-- one that lowers nothing is followed by none that does.
unfoldable pub line_under : List Message → List ℕ → List ℕ
line_under messages ceiling = passes (sum ceiling) messages ceiling
