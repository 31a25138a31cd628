-- Of the code: the marks of a run in a lent buffer, and what the functions that set them leave. The laws join this to
-- the procedure. Assumes nothing.
use Rattle.std.specs.Prelude.{Bool, false, true, ◌&&◌, List, ◌⊎◌, ◌≡◌, ℕ, suc, ◌+◌}
use Rattle.std.specs.Prelude.{◌≤◌, ◌<◌, leb, ltb, get_or, length, take}
use Rattle.checkpoint_graph.specs.Graph.{state}
use Rattle.consistency.specs.Ceilings.{Ceiling}
use Rattle.marking.specs.Procedure.{After, EndsWith, Marks, MarksReachable, Reachable, Stage}
use Rattle.marks.specs.Bits.{bit_at, first_bit, marked_in, unset}
use Rattle.marks.specs.Room.{marks_size}
use Rattle.tables.specs.Numbers.{put_at, u16s}
use Rattle.tables.specs.Table.{Table, count_of, message_count, message_of, process_count}

-- The marks that a buffer holds: of the states of the run, those whose bits are set.
unfoldable pub marks_in : Table → List ℕ → Marks
marks_in t buffer s =
    ltb s.process (process_count t)
    && (leb s.number (count_of t s.process) && marked_in t buffer s.process s.number)

-- No state of the run is marked.
unfoldable pub Unmarked : Table → List ℕ → Type 0
Unmarked t buffer = (p y : ℕ) → p < process_count t → y ≤ count_of t p → marked_in t buffer p y ≡ false

-- What each function is lent: a root for each process, and a buffer with room.
pub record Lent (t : Table) (roots buffer : List ℕ) : Type 0 where
  pub for_each : length roots ≡ 32
  pub roots-there : (p : ℕ) → p < process_count t → get_or roots p 0 ≤ count_of t p
  pub room : marks_size t ≤ length buffer

-- No byte beyond the marks is changed.
pub record Kept (t : Table) (before after : List ℕ) : Type 0 where
  pub same_length : length after ≡ length before
  pub beyond : (i : ℕ) → marks_size t ≤ i → get_or after i 0 ≡ get_or before i 0

-- The marks that a marking from these roots may begin with: the states behind a root are marked, so are those behind a
-- marked one, and a message that was sent from a marked state was received at one that is marked or reachable.
pub record Ready (t : Table) (roots buffer : List ℕ) : Type 0 where
  pub behind_roots : (p y : ℕ) → p < process_count t → get_or roots p 0 < y → y ≤ count_of t p
      → marked_in t buffer p y ≡ true
  pub behind_marked : (p y : ℕ) → p < process_count t → y < count_of t p → marked_in t buffer p y ≡ true
      → marked_in t buffer p (suc y) ≡ true
  pub follows : (k : ℕ) → 0 < (message_of t k).received
      → marked_in t buffer (message_of t k).sender (message_of t k).sent ≡ true
      → (marked_in t buffer (message_of t k).receiver (message_of t k).received ≡ true)
      ⊎ Reachable t roots (state (message_of t k).receiver (message_of t k).received)

-- The states behind the roots are marked, and no others.
pub record OnlyBehind (t : Table) (roots buffer : List ℕ) : Type 0 where
  pub marked_just : (p y : ℕ) → p < process_count t → y ≤ count_of t p
      → marked_in t buffer p y ≡ ltb (get_or roots p 0) y

-- Marks were set, of reachable states alone, and none was taken away.
pub record MarksGrown (t : Table) (roots before after : List ℕ) : Type 0 where
  pub kept : Kept t before after
  pub stay : (b : ℕ) → bit_at before b ≡ true → bit_at after b ≡ true
  pub no_others : (p y : ℕ) → p < process_count t → y ≤ count_of t p → marked_in t after p y ≡ true
      → (marked_in t before p y ≡ true) ⊎ Reachable t roots (state p y)

-- Message k leads to nothing new: it is undelivered, or its send is neither at a root nor marked, or its receipt is
-- marked already.
unfoldable pub RestsAt : Table → List ℕ → List ℕ → ℕ → Type 0
RestsAt t roots buffer k =
    0 < (message_of t k).received
    → ((message_of t k).sent ≡ get_or roots (message_of t k).sender 0)
    ⊎ (marked_in t buffer (message_of t k).sender (message_of t k).sent ≡ true)
    → marked_in t buffer (message_of t k).receiver (message_of t k).received ≡ true

-- A pass over the messages: it says whether it marked anything. Then fewer states are unmarked; if it did not, no
-- message leads to anything new.
pub record PassMade (t : Table) (roots before after : List ℕ) (marked : Bool) : Type 0 where
  pub grown : MarksGrown t roots before after
  pub ready : Ready t roots after
  pub at_rest : marked ≡ false → (k : ℕ) → k < message_count t → RestsAt t roots after k
  pub falls : marked ≡ true → unset after (first_bit t.counts (process_count t))
      < unset before (first_bit t.counts (process_count t))

-- A message that was sent from a marked state was received at a marked one.
unfoldable pub Closed : Table → List ℕ → Type 0
Closed t buffer =
    (k : ℕ) → 0 < (message_of t k).received
    → marked_in t buffer (message_of t k).sender (message_of t k).sent ≡ true
    → marked_in t buffer (message_of t k).receiver (message_of t k).received ≡ true

-- All that is reachable from the roots is marked, and no byte beyond the marks is changed.
pub record Reached (t : Table) (roots before after : List ℕ) : Type 0 where
  pub kept : Kept t before after
  pub ready : Ready t roots after
  pub closed : Closed t after
  pub marking : MarksReachable t roots (marks_in t before) (marks_in t after)

-- No state 0 is marked.
unfoldable pub ZeroUnmarked : Table → List ℕ → Type 0
ZeroUnmarked t buffer = (p : ℕ) → p < process_count t → marked_in t buffer p 0 ≡ false

-- The latest number at or below a root whose bit, counted from a first one, is not set.
pub record LatestUnset (buffer : List ℕ) (start root y : ℕ) : Type 0 where
  pub no-later : y ≤ root
  pub not_set : bit_at buffer (start + y) ≡ false
  pub set_behind : (y' : ℕ) → y < y' → y' ≤ root → bit_at buffer (start + y') ≡ true

-- Each root gave way to the latest unmarked state at or below it.
pub record GaveWay (t : Table) (roots buffer next : List ℕ) : Type 0 where
  pub for_each : length next ≡ 32
  pub each : (p : ℕ) → p < process_count t
      → LatestUnset buffer (first_bit t.counts p) (get_or roots p 0) (get_or next p 0)

-- ---- the procedure
-- What it is given: ceilings, and a buffer with room.
pub record Given (t : Table) (ceilings buffer : List ℕ) : Type 0 where
  pub ceiling : Ceiling t ceilings
  pub room : marks_size t ≤ length buffer

-- What a round may begin with: the states behind the roots are marked, what is marked is closed under edges, and no
-- state 0 is marked.
pub record RoundReady (t : Table) (roots buffer : List ℕ) : Type 0 where
  pub lent : Lent t roots buffer
  pub ready : Ready t roots buffer
  pub closed : Closed t buffer
  pub zero_unmarked : ZeroUnmarked t buffer

-- A round was made: the roots gave way, and all that is reachable from the new ones is marked.
pub record RoundMade (t : Table) (roots before next after : List ℕ) : Type 0 where
  pub gave : GaveWay t roots before next
  pub reached : Reached t next before after

-- The stage that the code holds: its roots are the first N of the array, its marks those in the buffer.
unfoldable pub stage_of : Table → List ℕ → List ℕ → Stage
stage_of t roots buffer = record { roots = take (process_count t) roots; marks = marks_in t buffer }

-- After some rounds it is one that the procedure may have, and no byte beyond the marks is changed.
pub record Running (t : Table) (ceilings roots start buffer : List ℕ) : Type 0 where
  pub ceiling : Ceiling t ceilings
  pub stands : RoundReady t roots buffer
  pub kept : Kept t start buffer
  pub rounds : ℕ
  pub after : After t ceilings rounds (stage_of t roots buffer)

-- The last roots stand at the front of the answer's buffer.
pub record PutByMarking (t : Table) (ceilings before after : List ℕ) : Type 0 where
  pub roots : List ℕ
  pub by_marking : EndsWith t ceilings roots
  pub put : after ≡ put_at before 0 (u16s roots)
