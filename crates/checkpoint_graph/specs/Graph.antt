-- The checkpoint graph of a run (docs/MANUAL.md, "The same line by marking"): its states, its edges, and which state
-- leads to which. It is told of the table alone. Assumes nothing.
use Rattle.std.specs.Prelude.{ℕ, suc, ◌≤◌, ◌<◌}
use Rattle.tables.specs.Table.{Table, count_of, message_of, process_count}

-- A state: a process and a number.
pub record State : Type 0 where
  pub process : ℕ
  pub number : ℕ

-- State y of process p.
abbrev pub state : ℕ → ℕ → State
state p y = record { process = p; number = y }

-- The states of a run: of each process its checkpoints, and its new state (its virtual checkpoint), whose number is the
-- count. Every edge of a well formed table goes from a checkpoint to one of these (laws `edge_from`, `edge_to`).
pub record StateOf (t : Table) (s : State) : Type 0 where
  pub known : s.process < process_count t
  pub there : s.number ≤ count_of t s.process

-- An edge goes from each state to the next of its process, new states included; and for each received message, (j, y)
-- to (i, r) with r not 0, from state y of j to state r of i. Beyond the last message stands one with receipt number 0.
pub data Edge (t : Table) : State → State → Type 0 where
  to_next : (p y : ℕ) → p < process_count t → y < count_of t p → Edge t (state p y) (state p (suc y))
  received : (k : ℕ) → 0 < (message_of t k).received
      → Edge t (state (message_of t k).sender (message_of t k).sent)
      (state (message_of t k).receiver (message_of t k).received)

-- One state leads to another: there is a path of one edge or more.
pub data Leads (t : Table) : State → State → Type 0 where
  edge : {a b : State} → Edge t a b → Leads t a b
  then : {a b c : State} → Leads t a b → Edge t b c → Leads t a c
