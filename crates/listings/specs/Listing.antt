-- The listing (docs/MANUAL.md, "The listing"). Assumes nothing.
use Rattle.std.specs.Prelude.{List, [], ◌∷◌, ◌++◌, ◌≡◌, ℕ, zero, suc, ◌*◌, length}
use Rattle.consistency.specs.Ceilings.{holder_line, recovery_line}
use Rattle.keep_sheet.specs.Sheet.{Checkpoint, kept_checkpoints, kept_messages}
use Rattle.calls.specs.Answers.{Answer, answer}
use Rattle.rounding.specs.Rounding.{Rounded, rounded_quotient}
use Rattle.text_writer.specs.Text.{each, row}
use Rattle.tables.specs.Checks.{table_refusal}
use Rattle.tables.specs.Format.{decode}
use Rattle.tables.specs.Lists.{rows}
use Rattle.tables.specs.Table.{Table, checkpoint_total, process_count}

-- `line` and a line.
unfoldable pub line_row : List ℕ → List ℕ
line_row line = row (108 ∷ 105 ∷ 110 ∷ 101 ∷ []) line

-- `hold`, a process and its line.
unfoldable pub hold_row : ℕ → List ℕ → List ℕ
hold_row process line = row (104 ∷ 111 ∷ 108 ∷ 100 ∷ []) (process ∷ line)

-- `checkpoint`, its process, its number.
unfoldable pub checkpoint_row : Checkpoint → List ℕ
checkpoint_row k =
    row (99 ∷ 104 ∷ 101 ∷ 99 ∷ 107 ∷ 112 ∷ 111 ∷ 105 ∷ 110 ∷ 116 ∷ [])
    (k.process ∷ k.number ∷ [])

-- `message`, position.
unfoldable pub message_row : ℕ → List ℕ
message_row position = row (109 ∷ 101 ∷ 115 ∷ 115 ∷ 97 ∷ 103 ∷ 101 ∷ []) (position ∷ [])

-- `share` and a percentage.
unfoldable pub share_row : ℕ → List ℕ
share_row percent = row (115 ∷ 104 ∷ 97 ∷ 114 ∷ 101 ∷ []) (percent ∷ [])

-- `refused` and the number of a check.
unfoldable pub refused_row : ℕ → List ℕ
refused_row number = row (114 ∷ 101 ∷ 102 ∷ 117 ∷ 115 ∷ 101 ∷ 100 ∷ []) (number ∷ [])

-- 100 × K divided by the sum of counts, rounded.
unfoldable pub share : Table → ℕ
share t = rounded_quotient (100 * length (kept_checkpoints t)) (checkpoint_total t)

-- The listing of a table: the recovery line, the lines of single holders, what is kept, and the share.
unfoldable pub listing : Table → List ℕ
listing t =
    line_row (recovery_line t)
    ++ (rows (λ k. hold_row k (holder_line t k)) (process_count t)
    ++ (each checkpoint_row (kept_checkpoints t) ++ (each message_row (kept_messages t) ++ share_row (share t))))

-- A text ends with `share`, a percentage and a line feed: 100 × K divided by the sum of counts, rounded.
pub record EndsInShare (t : Table) (text : List ℕ) : Type 0 where
  pub before : List ℕ
  pub percent : ℕ
  pub text_is : text ≡ before ++ share_row percent
  pub is_rounded : Rounded (100 * length (kept_checkpoints t)) (checkpoint_total t) percent

-- A refusal of 0 is none; any other is all that is listed.
unfoldable pub listing_unless : ℕ → List ℕ → List ℕ
listing_unless zero text = text
listing_unless (suc n) text = refused_row (suc n)

-- The listing of bytes, a table or not.
unfoldable pub listing_of : List ℕ → List ℕ
listing_of table = listing_unless (table_refusal table) (listing (decode table))

-- The call's answer: it is refused by 16 where the buffer is shorter than the listing, and by nothing else.
unfoldable pub listing_answer : List ℕ → ℕ → Answer
listing_answer table room = answer [] (listing_of table) room
