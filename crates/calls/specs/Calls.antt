-- The answer of each call, from the table's bytes, its other arguments and the length of the answer buffer. The checks
-- before 16 are those of `refusals`. Assumes nothing.
use Rattle.std.specs.Prelude.{cond, true, List, [], ◌++◌, ◌↔◌, ◌≡◌, ℕ, zero, suc, ◌+◌, ◌*◌}
use Rattle.std.specs.Prelude.{◌≤◌, ◌<◌, get_or, length, take, drop}
use Rattle.consistency.specs.Ceilings.{ceiling_of, holder_lines, line_of}
use Rattle.consistency.specs.Lines.{AtOrBelow, Latest, Line, as_line}
use Rattle.consistency.specs.Lowering.{line_under}
use Rattle.run_futures.specs.Futures.{CheckpointNeeded, MessageNeeded}
use Rattle.keep_sheet.specs.Sheet.{sheet}
use Rattle.steps.specs.Steps.{after_checkpoint, after_receipt, after_rollback, after_send}
use Rattle.calls.specs.Answers.{Answer, Yields, answer, answered}
use Rattle.marking.specs.Procedure.{EndsWith}
use Rattle.marks.specs.Room.{cleared, marks_size}
use Rattle.process_set.specs.Sets.{member}
use Rattle.call_checks.specs.CallChecks.{checkpoint_call_checks, keep_sheet_checks, line_of_set_checks}
use Rattle.call_checks.specs.CallChecks.{line_under_checks}
use Rattle.call_checks.specs.CallChecks.{lines_of_sets_checks, marked_line_checks, receipt_call_checks}
use Rattle.call_checks.specs.CallChecks.{send_call_checks}
use Rattle.call_checks.specs.CallChecks.{stand_together_checks}
use Rattle.tables.specs.Checks.{Accepted, Check, first_caught, table_checks}
use Rattle.tables.specs.Format.{decode, encode}
use Rattle.tables.specs.Lists.{rows, tabulate}
use Rattle.tables.specs.Numbers.{u16_at, u16s}
use Rattle.tables.specs.Table.{Table, process_count}
use Rattle.zigzag.specs.Names.{NamedZigzag}
use Rattle.zigzag.specs.Together.{StandOn, misses, named_line}

-- ---- lines
-- The answer of every line call: the line under a ceiling. Checks: the call's, 16.
unfoldable pub line_answer : List Check → List ℕ → List ℕ → ℕ → Answer
line_answer checks table ceiling room = answer checks (u16s (line_under (decode table).messages ceiling)) room

-- The line under ceilings that the caller lends.
unfoldable pub line_under_answer : List ℕ → List ℕ → ℕ → Answer
line_under_answer table ceilings room = line_answer (line_under_checks table ceilings) table ceilings room

-- The line of a set: that under the set's ceiling, which is `line_of` of the set.
unfoldable pub line_of_set_answer : List ℕ → ℕ → ℕ → Answer
line_of_set_answer table set room =
    line_answer (line_of_set_checks table set) table (ceiling_of (decode table) (member set)) room

-- The recovery line of the run: that under the ceiling of all processes, which is `recovery_line` of the table, the
-- line that futures and rollbacks speak of. Checks: the table's, 16.
unfoldable pub recovery_line_answer : List ℕ → ℕ → Answer
recovery_line_answer table room = line_answer (table_checks table) table (ceiling_of (decode table) (λ p. true)) room

-- What a line call leaves: the first N numbers of the buffer are the latest consistent line, of the table's messages,
-- under this ceiling.
unfoldable pub HoldsLatest : List ℕ → List ℕ → List ℕ → Type 0
HoldsLatest table ceiling buffer =
    Latest (decode table).messages (as_line ceiling)
    (as_line (tabulate (process_count (decode table)) (λ p. u16_at buffer (2 * p))))

-- ---- the lines of many sets
-- A scratch by the number of a refusal: the lines, and then what was there; or unchanged.
unfoldable pub lines_unless : ℕ → List ℕ → List ℕ → List ℕ
lines_unless zero lines scratch = lines ++ drop (length lines) scratch
lines_unless (suc n) lines scratch = scratch

-- The lines of the sets of a list, one after another, each of N numbers.
unfoldable pub lines_of_sets : Table → List ℕ → List ℕ
lines_of_sets t sets = rows (λ k. line_of t (member (get_or sets k 0))) (length sets)

-- The lines of many sets: its checks, by the length of the scratch, 16. No buffer is too short for those of no sets.
unfoldable pub lines_of_sets_answer : List ℕ → List ℕ → ℕ → ℕ → Answer
lines_of_sets_answer table sets numbers room =
    answer (lines_of_sets_checks table sets numbers) (u16s (lines_of_sets (decode table) sets)) room

-- The scratch afterwards, by the number returned: on success it has the lines of single holders, and then what was
-- there; under a refusal, 16 too, it is unchanged.
unfoldable pub scratch_of_sets : ℕ → List ℕ → List ℕ → List ℕ
scratch_of_sets number table scratch = lines_unless number (holder_lines (decode table)) scratch

-- A buffer begins with the line of a set: with the bytes that the call for this one set answers, in any buffer that
-- they fit; and it is the latest consistent line under the set's ceiling.
pub record HoldsLineOf (table : List ℕ) (set : ℕ) (buffer : List ℕ) : Type 0 where
  pub alone : (room : ℕ) → 2 * process_count (decode table) ≤ room
      → line_of_set_answer table set room ≡ answered (take (2 * process_count (decode table)) buffer)
  pub latest : HoldsLatest table (ceiling_of (decode table) (member set)) buffer

-- What the call leaves: behind the lines of the sets before it, the line of each.
unfoldable pub HoldsLineOfEach : List ℕ → List ℕ → List ℕ → Type 0
HoldsLineOfEach table sets buffer =
    (k : ℕ) → k < length sets
    → HoldsLineOf table (get_or sets k 0) (drop (2 * process_count (decode table) * k) buffer)

-- ---- the line by marking
-- What the call yields: its checks, 16, and the roots with which the marking procedure ends from these ceilings, where
-- no check before 16 catches. The checks are by the length of the mark buffer.
pub record YieldsByMarking (table ceilings : List ℕ) (bytes room number : ℕ) (buffer buffer' : List ℕ)
    (written written' : ℕ) : Type 0 where
  pub roots : List ℕ
  pub by_marking : first_caught (marked_line_checks table ceilings bytes) ≡ 0
      → EndsWith (decode table) ceilings roots
  pub yields : Yields (answer (marked_line_checks table ceilings bytes) (u16s roots) room) number buffer buffer'
      written written'

-- The mark buffer afterwards, by the number returned: on success the bytes of the marks are 0, and those beyond are as
-- they were; under a refusal it is unchanged.
unfoldable pub marks_after : ℕ → List ℕ → List ℕ → List ℕ
marks_after zero table marks = cleared (marks_size (decode table)) marks
marks_after (suc n) table marks = marks

-- The same answer by the line that the other calls find: that of the line under ceilings, with 19 among the checks.
unfoldable pub marked_line_answer : List ℕ → List ℕ → ℕ → ℕ → Answer
marked_line_answer table ceilings bytes room = line_answer (marked_line_checks table ceilings bytes) table ceilings room

-- ---- named checkpoints that stand together
-- The bytes of the answer: a yes has the latest line under the names' ceiling, which has them all; a no has none.
unfoldable pub standing_bytes : Table → List ℕ → List ℕ → List ℕ
standing_bytes t processes states =
    let line = named_line t processes states in
    cond (misses processes states line) [] (u16s line)

-- Whether the named checkpoints stand together: its checks, 16. No buffer is too short for a no.
unfoldable pub stand_together_answer : List ℕ → List ℕ → List ℕ → ℕ → Answer
stand_together_answer table processes states room =
    answer (stand_together_checks table processes states) (standing_bytes (decode table) processes states) room

-- What a yes leaves: the first N numbers of the buffer are a consistent line that has the named checkpoints, and the
-- latest such line.
unfoldable pub HoldsStanding : Table → List ℕ → List ℕ → List ℕ → Type 0
HoldsStanding t processes states buffer =
    let line = as_line (tabulate (process_count t) (λ p. u16_at buffer (2 * p))) in
    StandOn t processes states line × ((other : Line) → StandOn t processes states other → AtOrBelow other line)

-- What the call tells, where no check before 16 catches: its answer is a no, number 0 and length 0, exactly when a
-- zigzag path leads from one of the named checkpoints to another or to itself; and it is a yes, number 0 and another
-- length, only with their latest line.
pub record TellsTogether (t : Table) (processes states : List ℕ) (number : ℕ) (buffer : List ℕ) (written : ℕ)
    : Type 0 where
  pub no : ((number ≡ 0) × (written ≡ 0)) ↔ NamedZigzag t processes states
  pub yes : number ≡ 0 → (written ≡ 0 → ⊥) → HoldsStanding t processes states buffer

-- ---- the steps
-- The table after a send: its checks, 16.
unfoldable pub send_answer : List ℕ → ℕ → ℕ → ℕ → Answer
send_answer table from to room =
    answer (send_call_checks table from to) (encode (after_send (decode table) from to)) room

-- The table after a receipt: its checks, 16.
unfoldable pub receipt_answer : List ℕ → ℕ → List ℕ → ℕ → Answer
receipt_answer table process list room =
    answer (receipt_call_checks table process list) (encode (after_receipt (decode table) process list)) room

-- The table after a checkpoint: its checks, 16.
unfoldable pub checkpoint_answer : List ℕ → ℕ → List ℕ → ℕ → Answer
checkpoint_answer table process list room =
    answer (checkpoint_call_checks table process list) (encode (after_checkpoint (decode table) process list)) room

-- The table after a rollback: the table's checks, 16.
unfoldable pub rollback_answer : List ℕ → ℕ → Answer
rollback_answer table room = answer (table_checks table) (encode (after_rollback (decode table))) room

-- The first bytes of a buffer are an accepted table, and they read as this one.
pub record HoldsTable (t : Table) (buffer : List ℕ) (size : ℕ) : Type 0 where
  pub accepted : Accepted (take size buffer)
  pub reads : decode (take size buffer) ≡ t

-- ---- the keep sheet
-- The keep sheet: its checks, 16.
unfoldable pub keep_sheet_answer : List ℕ → ℕ → ℕ → Answer
keep_sheet_answer table numbers room = answer (keep_sheet_checks table numbers) (sheet (decode table)) room

-- The scratch afterwards, by what the checks before 16 refuse: it has the lines of single holders, or is unchanged.
unfoldable pub scratch_after : List ℕ → List ℕ → List ℕ
scratch_after table scratch =
    lines_unless (first_caught (keep_sheet_checks table (length scratch))) (holder_lines (decode table)) scratch

-- A sheet in a buffer lists checkpoint c of process i: entry n of its two arrays, for some n below K, is i and c.
unfoldable pub ListsCheckpoint : List ℕ → ℕ → ℕ → Type 0
ListsCheckpoint buffer i c =
    let k = u16_at buffer 0 in
    (n : ℕ) × (n < k) × (u16_at buffer (4 + 2 * n) ≡ i) × (u16_at buffer (4 + 2 * k + 2 * n) ≡ c)

-- It lists the message at a position: so is entry n of its positions, for some n below Q.
unfoldable pub ListsMessage : List ℕ → ℕ → Type 0
ListsMessage buffer position =
    (n : ℕ) × (n < u16_at buffer 2) × (u16_at buffer (4 + 4 * u16_at buffer 0 + 2 * n) ≡ position)

-- Demand 3, of the bytes in a buffer: they list exactly what some future of the table needs.
pub record HoldsSheet (t : Table) (buffer : List ℕ) : Type 0 where
  pub checkpoints : (i c : ℕ) → ListsCheckpoint buffer i c ↔ CheckpointNeeded t i c
  pub messages : (k : ℕ) → ListsMessage buffer k ↔ MessageNeeded t k
