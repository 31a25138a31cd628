-- The checks of each call on a table before 16, in checking order, from the table's bytes and the call's other
-- arguments (docs/MANUAL.md, "Refusals"). Assumes nothing.
use Rattle.std.specs.Prelude.{Bool, not, ◌||◌, List, [], ◌∷◌, ◌++◌, ℕ, ◌*◌, eqb, leb, ltb, length}
use Rattle.consistency.specs.Ceilings.{above_counts}
use Rattle.steps.specs.Steps.{not_rising, receipt_checks, send_checks}
use Rattle.marks.specs.Room.{marks_size}
use Rattle.process_set.specs.Sets.{high_bit, some_high_bit}
use Rattle.tables.specs.Checks.{Check, table_checks}
use Rattle.tables.specs.Format.{decode}
use Rattle.tables.specs.Table.{Table, count_of, message_count, most_checkpoints, most_messages, process_count}
use Rattle.zigzag.specs.Names.{not_below_counts, unknown_named}

-- The checks of a call on a table: the table's, and then the call's own.
abbrev pub on_table : List ℕ → List Check → List Check
on_table table own = table_checks table ++ own

-- ---- limits
-- The table is full of messages: M is 4,096 already.
abbrev pub full_of_messages : Table → Bool
full_of_messages t = leb most_messages (message_count t)

-- The process is full of checkpoints: its count is 4,096 already.
abbrev pub full_of_checkpoints : Table → ℕ → Bool
full_of_checkpoints t process = leb most_checkpoints (count_of t process)

-- A scratch of so many numbers is short of the lines of single holders, N × N numbers.
abbrev pub short_of_lines : Table → ℕ → Bool
short_of_lines t numbers = ltb numbers (process_count t * process_count t)

-- The most sets that one call takes.
unfoldable pub most_sets : ℕ
most_sets = 256

-- ---- the checks of each call
-- The line of a set: the table's; 12, that the set has a bit at N or above.
unfoldable pub line_of_set_checks : List ℕ → ℕ → List Check
line_of_set_checks table set =
    on_table table (record { caught = high_bit set (process_count (decode table)); number = 12 } ∷ [])

-- The lines of many sets, by the length of the scratch: the table's; 25, that there are more than 256 of them; 12, that
-- one of them has a bit at N or above; 15, that the scratch is short of the lines of single holders.
unfoldable pub lines_of_sets_checks : List ℕ → List ℕ → ℕ → List Check
lines_of_sets_checks table sets numbers =
    on_table table (record { caught = ltb most_sets (length sets); number = 25 }
    ∷ record { caught = some_high_bit sets (process_count (decode table)); number = 12 }
    ∷ record { caught = short_of_lines (decode table) numbers; number = 15 }
    ∷ [])

-- The line under ceilings: the table's; 17, that there are not N of them; 18, that one is above its process's
-- count.
unfoldable pub line_under_checks : List ℕ → List ℕ → List Check
line_under_checks table ceilings =
    on_table table (record { caught = not (eqb (length ceilings) (process_count (decode table))); number = 17 }
    ∷ record { caught = above_counts (decode table) ceilings; number = 18 }
    ∷ [])

-- The line under ceilings by marking, by the length of the mark buffer: those of the line under ceilings; 19, that it
-- is shorter than the bytes of the marks.
unfoldable pub marked_line_checks : List ℕ → List ℕ → ℕ → List Check
marked_line_checks table ceilings bytes =
    line_under_checks table ceilings
    ++ (record { caught = ltb bytes (marks_size (decode table)); number = 19 } ∷ [])

-- Named checkpoints that stand together: the table's; 20, that the two lists are of unequal length; 21, that a process
-- is N or above, or not above the one before it; 22, that a number is not below its process's count.
unfoldable pub stand_together_checks : List ℕ → List ℕ → List ℕ → List Check
stand_together_checks table processes states =
    on_table table (record { caught = not (eqb (length processes) (length states)); number = 20 }
    ∷ record { caught = unknown_named (decode table) processes || not_rising processes; number = 21 }
    ∷ record { caught = not_below_counts (decode table) processes states; number = 22 }
    ∷ [])

-- A send: the table's; 10 and 11; 14, that the table is full of messages.
unfoldable pub send_call_checks : List ℕ → ℕ → ℕ → List Check
send_call_checks table from to =
    on_table table (send_checks (decode table) from to
    ++ (record { caught = full_of_messages (decode table); number = 14 } ∷ []))

-- A receipt: the table's; 10, 13 and 24.
unfoldable pub receipt_call_checks : List ℕ → ℕ → List ℕ → List Check
receipt_call_checks table process list = on_table table (receipt_checks (decode table) process list)

-- A checkpoint: those of a receipt; 14, that the process is full of checkpoints.
unfoldable pub checkpoint_call_checks : List ℕ → ℕ → List ℕ → List Check
checkpoint_call_checks table process list =
    receipt_call_checks table process list
    ++ (record { caught = full_of_checkpoints (decode table) process; number = 14 } ∷ [])

-- The keep sheet, by the length of the scratch: the table's; 15, that it is short of the lines of single holders.
unfoldable pub keep_sheet_checks : List ℕ → ℕ → List Check
keep_sheet_checks table numbers =
    on_table table (record { caught = short_of_lines (decode table) numbers; number = 15 } ∷ [])
