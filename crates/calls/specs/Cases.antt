-- The marked cases of the format's document (README.md, "What is proved"), as one table, and beside them cases of later
-- calls. Assumes nothing.
use Rattle.std.specs.Prelude.{Bool, true, false, ◌&&◌, List, [], ◌∷◌, ◌++◌, ℕ, eqb, replicate}
use Rattle.call_checks.specs.OrderCases.{case_table}
use Rattle.calls.specs.Answers.{Answer, answered, refused, unless}
use Rattle.calls.specs.Calls.{checkpoint_answer, keep_sheet_answer, line_of_set_answer, line_under_answer}
use Rattle.calls.specs.Calls.{lines_of_sets_answer, marked_line_answer, receipt_answer, recovery_line_answer}
use Rattle.calls.specs.Calls.{rollback_answer, scratch_of_sets, send_answer, stand_together_answer}
use Rattle.marking.specs.Procedure.{EndsWith}
use Rattle.tables.specs.Checks.{table_refusal}
use Rattle.tables.specs.Format.{decode}
use Rattle.tables.specs.Numbers.{u16s}
use Rattle.zigzag.specs.Paths.{Zigzag}

-- A, but for the count of process 0 and the send number and the receipt number of the last message.
unfoldable pub like_a : ℕ → ℕ → ℕ → List ℕ
like_a count sent received =
    case_table 2 5 (count ∷ 3 ∷ []) (0 ∷ 0 ∷ 1 ∷ 0 ∷ 1 ∷ 1 ∷ 0 ∷ 2 ∷ 1 ∷ sent ∷ [])
    (1 ∷ 2 ∷ 0 ∷ 1 ∷ 0 ∷ 2 ∷ 1 ∷ 2 ∷ 0 ∷ received ∷ [])

abbrev pub table_a : List ℕ
table_a = like_a 3 2 0

unfoldable pub table_b : List ℕ
table_b = case_table 1 0 (1 ∷ []) [] []

unfoldable pub table_c : List ℕ
table_c = case_table 2 0 (1 ∷ 4 ∷ []) [] []

unfoldable pub table_d : List ℕ
table_d = case_table 2 2 (2 ∷ 2 ∷ []) (0 ∷ 1 ∷ 1 ∷ 0 ∷ []) (1 ∷ 1 ∷ 0 ∷ 1 ∷ [])

-- A, with (1, 2) to (0, 4), and with (1, 3) to (0, 0), as its last message.
abbrev pub late_receipt : List ℕ
late_receipt = like_a 3 2 4

abbrev pub late_send : List ℕ
late_send = like_a 3 3 0

-- ---- a case: a call on a table, and the answer that the document gives
pub data Call : Type 0 where
  check_table : Call
  recovery_line : Call
  hold : ℕ → Call
  under : List ℕ → Call
  marking : List ℕ → ℕ → ℕ → Call
  stand : List ℕ → List ℕ → ℕ → Call
  send : ℕ → ℕ → Call
  receive : ℕ → List ℕ → ℕ → Call
  save : ℕ → List ℕ → Call
  fall_back : Call
  keep_sheet : Call

pub record Case : Type 0 where
  pub table : List ℕ
  pub call : Call
  pub expected : Answer

-- The answer of a call by the definitions, with a buffer of 1,000 bytes and a scratch of 4 numbers; of the line by
-- marking, with the bytes of its mark buffer and of its answer buffer that the case gives; of a receipt and of names,
-- with those of its answer buffer.
unfoldable pub answer_of : List ℕ → Call → Answer
answer_of table check_table = unless (table_refusal table) []
answer_of table recovery_line = recovery_line_answer table 1000
answer_of table (hold set) = line_of_set_answer table set 1000
answer_of table (under ceilings) = line_under_answer table ceilings 1000
answer_of table (marking ceilings bytes room) = marked_line_answer table ceilings bytes room
answer_of table (stand processes states room) = stand_together_answer table processes states room
answer_of table (send from to) = send_answer table from to 1000
answer_of table (receive process list room) = receipt_answer table process list room
answer_of table (save process list) = checkpoint_answer table process list 1000
answer_of table fall_back = rollback_answer table 1000
answer_of table keep_sheet = keep_sheet_answer table 4 1000

-- ---- whether a case holds
unfoldable pub same_bytes : List ℕ → List ℕ → Bool
same_bytes [] [] = true
same_bytes [] (y ∷ ys) = false
same_bytes (x ∷ xs) [] = false
same_bytes (x ∷ xs) (y ∷ ys) = eqb x y && same_bytes xs ys

unfoldable pub same_answer : Answer → Answer → Bool
same_answer (refused n) (refused m) = eqb n m
same_answer (refused n) (answered ys) = false
same_answer (answered xs) (refused m) = false
same_answer (answered xs) (answered ys) = same_bytes xs ys

unfoldable pub all_hold : List Case → Bool
all_hold [] = true
all_hold (c ∷ rest) = same_answer (answer_of c.table c.call) c.expected && all_hold rest

-- ---- the cases
unfoldable pub marked_cases : List Case
marked_cases =
    -- A1: the two hold lines of A
    record { table = table_a; call = hold 1; expected = answered (u16s (1 ∷ 1 ∷ [])) }
    ∷ record { table = table_a; call = hold 2; expected = answered (u16s (3 ∷ 2 ∷ [])) }
    -- A2: its sheet
    ∷ record {
      table = table_a;
      call = keep_sheet;
      expected = answered (3 ∷ 0 ∷ 2 ∷ 0 ∷ 0 ∷ 0 ∷ 1 ∷ 0 ∷ 1 ∷ 0 ∷ 1 ∷ 0
          ∷ 1 ∷ 0 ∷ 2 ∷ 0 ∷ 0 ∷ 0 ∷ 4 ∷ 0 ∷ []);
    }
    -- A3: A after a fall back
    ∷ record {
      table = table_a;
      call = fall_back;
      expected = answered (case_table 2 2 (2 ∷ 2 ∷ []) (0 ∷ 0 ∷ 1 ∷ 0 ∷ []) (1 ∷ 0 ∷ 0 ∷ 1 ∷ []));
    }
    -- B: its line, and its checkpoint 0
    ∷ record { table = table_b; call = recovery_line; expected = answered (u16s (0 ∷ [])) }
    ∷ record { table = table_b; call = keep_sheet; expected = answered (u16s (1 ∷ 0 ∷ 0 ∷ 0 ∷ [])) }
    -- C: its hold lines and its sheet
    ∷ record { table = table_c; call = hold 1; expected = answered (u16s (0 ∷ 4 ∷ [])) }
    ∷ record { table = table_c; call = hold 2; expected = answered (u16s (1 ∷ 3 ∷ [])) }
    ∷ record {
      table = table_c;
      call = keep_sheet;
      expected = answered (u16s (2 ∷ 0 ∷ 0 ∷ 1 ∷ 0 ∷ 3 ∷ []));
    }
    -- D: its line, its hold lines and its sheet
    ∷ record { table = table_d; call = recovery_line; expected = answered (u16s (0 ∷ 0 ∷ [])) }
    ∷ record { table = table_d; call = hold 1; expected = answered (u16s (0 ∷ 0 ∷ [])) }
    ∷ record { table = table_d; call = hold 2; expected = answered (u16s (2 ∷ 1 ∷ [])) }
    ∷ record {
      table = table_d;
      call = keep_sheet;
      expected = answered (u16s (3 ∷ 0 ∷ 0 ∷ 1 ∷ 1 ∷ 0 ∷ 0 ∷ 1 ∷ []));
    }
    -- E: 3 bytes; N = 33; M = 4,097
    ∷ record { table = 2 ∷ 0 ∷ 0 ∷ []; call = check_table; expected = refused 1 }
    ∷ record { table = u16s (33 ∷ 0 ∷ []); call = check_table; expected = refused 2 }
    ∷ record { table = u16s (2 ∷ 4097 ∷ []); call = check_table; expected = refused 3 }
    -- F: A with one byte more; with receipt (0, 4) in its last entry; with send (1, 3) there
    ∷ record { table = table_a ++ (0 ∷ []); call = check_table; expected = refused 4 }
    ∷ record { table = late_receipt; call = check_table; expected = refused 9 }
    ∷ record { table = late_send; call = check_table; expected = refused 8 }
    ∷ []

-- ---- lines under ceilings (docs/MANUAL.md, "Lines")
unfoldable pub ceiling_cases : List Case
ceiling_cases =
    -- A: both processes hold; one of them; none
    record { table = table_a; call = under (2 ∷ 2 ∷ []); expected = answered (u16s (1 ∷ 1 ∷ [])) }
    ∷ record { table = table_a; call = under (3 ∷ 2 ∷ []); expected = answered (u16s (3 ∷ 2 ∷ [])) }
    ∷ record { table = table_a; call = under (2 ∷ 3 ∷ []); expected = answered (u16s (1 ∷ 1 ∷ [])) }
    ∷ record { table = table_a; call = under (3 ∷ 3 ∷ []); expected = answered (u16s (3 ∷ 3 ∷ [])) }
    -- A: one of them is taken up from its checkpoint 0
    ∷ record { table = table_a; call = under (0 ∷ 3 ∷ []); expected = answered (u16s (0 ∷ 1 ∷ [])) }
    ∷ record { table = table_a; call = under (3 ∷ 0 ∷ []); expected = answered (u16s (0 ∷ 0 ∷ [])) }
    -- B: the virtual checkpoint; beyond it
    ∷ record { table = table_b; call = under (1 ∷ []); expected = answered (u16s (1 ∷ [])) }
    ∷ record { table = table_b; call = under (2 ∷ []); expected = refused 18 }
    -- D: both put each other back
    ∷ record { table = table_d; call = under (1 ∷ 2 ∷ []); expected = answered (u16s (0 ∷ 0 ∷ [])) }
    -- A: 17, whatever the ceilings; 18, by each process; a refused table first
    ∷ record { table = table_a; call = under []; expected = refused 17 }
    ∷ record { table = table_a; call = under (4 ∷ []); expected = refused 17 }
    ∷ record { table = table_a; call = under (3 ∷ 3 ∷ 0 ∷ []); expected = refused 17 }
    ∷ record { table = table_a; call = under (4 ∷ 0 ∷ []); expected = refused 18 }
    ∷ record { table = table_a; call = under (0 ∷ 4 ∷ []); expected = refused 18 }
    ∷ record { table = late_receipt; call = under []; expected = refused 9 }
    ∷ []

-- ---- the same lines by marking (docs/MANUAL.md, "The same line by marking")
-- The manual's example of the procedure: from the ceilings 2 2 of A it ends with the roots 1 1.
unfoldable pub MarkingExample : Type 0
MarkingExample = EndsWith (decode table_a) (2 ∷ 2 ∷ []) (1 ∷ 1 ∷ [])

-- Which mark buffers are long enough, and the order of the checks; the lines are those under the ceilings.
-- Two processes without messages: 7 checkpoints and 2 new states are 9 marks; 8 and 2 are 10.
unfoldable pub nine_marks : List ℕ
nine_marks = case_table 2 0 (3 ∷ 4 ∷ []) [] []

unfoldable pub ten_marks : List ℕ
ten_marks = case_table 2 0 (4 ∷ 4 ∷ []) [] []

unfoldable pub marking_cases : List Case
marking_cases =
    -- A has 8 marks: one byte, or more, or none; the line is that under the ceilings
    record { table = table_a; call = marking (2 ∷ 2 ∷ []) 1 4; expected = answered (u16s (1 ∷ 1 ∷ [])) }
    ∷ record { table = table_a; call = marking (0 ∷ 3 ∷ []) 1 1000; expected = answered (u16s (0 ∷ 1 ∷ [])) }
    ∷ record { table = table_a; call = marking (3 ∷ 3 ∷ []) 100 4; expected = answered (u16s (3 ∷ 3 ∷ [])) }
    ∷ record { table = table_a; call = marking (2 ∷ 2 ∷ []) 0 4; expected = refused 19 }
    -- 9 and 10 marks take two bytes, though 8 checkpoints would fit one
    ∷ record { table = nine_marks; call = marking (3 ∷ 4 ∷ []) 2 4; expected = answered (u16s (3 ∷ 4 ∷ [])) }
    ∷ record { table = nine_marks; call = marking (3 ∷ 4 ∷ []) 1 4; expected = refused 19 }
    ∷ record { table = ten_marks; call = marking (0 ∷ 0 ∷ []) 2 4; expected = answered (u16s (0 ∷ 0 ∷ [])) }
    ∷ record { table = ten_marks; call = marking (0 ∷ 0 ∷ []) 1 4; expected = refused 19 }
    -- B has two marks, D six
    ∷ record { table = table_b; call = marking (1 ∷ []) 1 2; expected = answered (u16s (1 ∷ [])) }
    ∷ record { table = table_d; call = marking (1 ∷ 2 ∷ []) 1 4; expected = answered (u16s (0 ∷ 0 ∷ [])) }
    -- the order: the table's, 17, 18, 19, 16
    ∷ record { table = late_receipt; call = marking [] 0 0; expected = refused 9 }
    ∷ record { table = table_a; call = marking (4 ∷ []) 0 0; expected = refused 17 }
    ∷ record { table = table_a; call = marking (4 ∷ 0 ∷ []) 0 0; expected = refused 18 }
    ∷ record { table = table_a; call = marking (3 ∷ 0 ∷ []) 0 0; expected = refused 19 }
    ∷ record { table = table_a; call = marking (3 ∷ 0 ∷ []) 1 3; expected = refused 16 }
    ∷ []

-- ---- receipts since the last save (docs/MANUAL.md, "Steps")
-- A, after process 0 received its last message, which is unsaved; and after process 0 saved.
abbrev pub unsaved_a : List ℕ
unsaved_a = like_a 3 2 3

abbrev pub saved_a : List ℕ
saved_a = like_a 4 2 3

-- Two processes with one checkpoint each, and a message each way that is received at r.
unfoldable pub crossing : ℕ → List ℕ
crossing r = case_table 2 2 (1 ∷ 1 ∷ []) (0 ∷ 0 ∷ 1 ∷ 0 ∷ []) (1 ∷ r ∷ 0 ∷ r ∷ [])

-- Counts 2 and 1, and a message from checkpoint 0 of process 0 to process 1 that is received at r.
unfoldable pub one_message : ℕ → List ℕ
one_message r = case_table 2 1 (2 ∷ 1 ∷ []) (0 ∷ 0 ∷ []) (1 ∷ r ∷ [])

-- One process with all the checkpoints that it may have.
unfoldable pub full : List ℕ
full = case_table 1 0 (4096 ∷ []) [] []

unfoldable pub receipt_cases : List Case
receipt_cases =
    -- a receipt number that is the count is accepted, and one above it is not
    record { table = unsaved_a; call = check_table; expected = answered [] }
    ∷ record { table = late_receipt; call = check_table; expected = refused 9 }
    -- A: its last message is received, with room just enough and one byte short; nothing is received
    ∷ record { table = table_a; call = receive 0 (4 ∷ []) 48; expected = answered unsaved_a }
    ∷ record { table = table_a; call = receive 0 (4 ∷ []) 47; expected = refused 16 }
    ∷ record { table = table_a; call = receive 0 [] 48; expected = answered table_a }
    -- the order: the table's, 10, 13, 16
    ∷ record { table = late_receipt; call = receive 2 (5 ∷ []) 0; expected = refused 9 }
    ∷ record { table = table_a; call = receive 2 (5 ∷ []) 0; expected = refused 10 }
    ∷ record { table = table_a; call = receive 0 (5 ∷ []) 0; expected = refused 13 }
    -- 13: a position that comes twice; a message for another process; a received one; an unsaved one, in a save too
    ∷ record { table = table_a; call = receive 0 (4 ∷ 4 ∷ []) 48; expected = refused 13 }
    ∷ record { table = table_a; call = receive 1 (4 ∷ []) 48; expected = refused 13 }
    ∷ record { table = table_a; call = receive 0 (1 ∷ []) 48; expected = refused 13 }
    ∷ record { table = unsaved_a; call = receive 0 (4 ∷ []) 48; expected = refused 13 }
    ∷ record { table = unsaved_a; call = save 0 (4 ∷ []); expected = refused 13 }
    -- 14 is of a save, and not of a receipt
    ∷ record { table = full; call = save 0 []; expected = refused 14 }
    ∷ record { table = full; call = receive 0 [] 6; expected = answered full }
    -- a save saves what was received before it, and what it receives itself, alike
    ∷ record { table = unsaved_a; call = save 0 []; expected = answered saved_a }
    ∷ record { table = table_a; call = save 0 (4 ∷ []); expected = answered saved_a }
    -- lines: process 1 holds, and process 0 has received what it sent since; nobody holds
    ∷ record { table = unsaved_a; call = hold 2; expected = answered (u16s (1 ∷ 1 ∷ [])) }
    ∷ record { table = unsaved_a; call = marking (3 ∷ 2 ∷ []) 1 4; expected = answered (u16s (1 ∷ 1 ∷ [])) }
    ∷ record { table = unsaved_a; call = hold 0; expected = answered (u16s (3 ∷ 3 ∷ [])) }
    -- a fall back: its send remains, and it waits again; its send is undone, and it is gone
    ∷ record { table = one_message 1; call = fall_back; expected = answered (one_message 0) }
    ∷ record { table = crossing 1; call = fall_back; expected = answered (case_table 2 0 (1 ∷ 1 ∷ []) [] []) }
    -- the sheet: an unsaved message that crosses a holder's line; two that cross none, and the same two as they waited
    ∷ record {
      table = one_message 1;
      call = keep_sheet;
      expected = answered (u16s (2 ∷ 1 ∷ 0 ∷ 1 ∷ 1 ∷ 0 ∷ 0 ∷ []));
    }
    ∷ record {
      table = crossing 1;
      call = keep_sheet;
      expected = answered (u16s (2 ∷ 0 ∷ 0 ∷ 1 ∷ 0 ∷ 0 ∷ []));
    }
    ∷ record {
      table = crossing 0;
      call = keep_sheet;
      expected = answered (u16s (2 ∷ 2 ∷ 0 ∷ 1 ∷ 0 ∷ 0 ∷ 0 ∷ 1 ∷ []));
    }
    ∷ []

-- ---- channels that deliver in turn (docs/MANUAL.md, "Refusals": 23 and 24)
-- Three processes of three checkpoints; two messages from process 0 to process 1, of send number y and receipt number r
-- each, and between them one from process 2 to process 1, of receipt number w.
unfoldable pub channel_with : ℕ → ℕ → ℕ → ℕ → ℕ → List ℕ
channel_with w y r y' r' =
    case_table 3 3 (3 ∷ 3 ∷ 3 ∷ []) (0 ∷ y ∷ 2 ∷ 0 ∷ 0 ∷ y' ∷ [])
    (1 ∷ r ∷ 1 ∷ w ∷ 1 ∷ r' ∷ [])

abbrev pub channel : ℕ → ℕ → ℕ → ℕ → List ℕ
channel = channel_with 0

-- Two messages that wait for a process with all the checkpoints that it may have.
unfoldable pub full_receiver : List ℕ
full_receiver = case_table 2 2 (1 ∷ 4096 ∷ []) (0 ∷ 0 ∷ 0 ∷ 0 ∷ []) (1 ∷ 0 ∷ 1 ∷ 0 ∷ [])

unfoldable pub channel_cases : List Case
channel_cases =
    -- 23: a smaller send number; received while the earlier one waits; a smaller receipt number
    record { table = channel 1 0 0 0; call = check_table; expected = refused 23 }
    ∷ record { table = channel 0 0 0 1; call = check_table; expected = refused 23 }
    ∷ record { table = channel 0 2 0 1; call = check_table; expected = refused 23 }
    -- unsaved is received: the later one, the earlier one; and in turn
    ∷ record { table = channel 0 0 0 3; call = check_table; expected = refused 23 }
    ∷ record { table = channel 0 3 0 2; call = check_table; expected = refused 23 }
    ∷ record { table = channel 0 2 0 3; call = check_table; expected = answered [] }
    ∷ record { table = channel 0 3 0 0; call = check_table; expected = answered [] }
    -- equal numbers; another channel between them
    ∷ record { table = channel 1 2 1 2; call = check_table; expected = answered [] }
    ∷ record { table = channel 0 0 0 0; call = check_table; expected = answered [] }
    ∷ record { table = channel_with 1 0 2 0 3; call = check_table; expected = answered [] }
    -- the order: 9, 23, then the call's own checks
    ∷ record { table = channel 1 4 0 0; call = check_table; expected = refused 9 }
    ∷ record { table = channel 1 0 0 0; call = hold 8; expected = refused 23 }
    ∷ record { table = channel 1 0 0 0; call = receive 3 (2 ∷ []) 0; expected = refused 23 }
    -- 24: of a receipt and of a save; both listed, the older one alone, one of another channel
    ∷ record { table = channel 0 0 0 0; call = receive 1 (2 ∷ []) 34; expected = refused 24 }
    ∷ record { table = channel 0 0 0 0; call = save 1 (2 ∷ []); expected = refused 24 }
    ∷ record {
      table = channel 0 0 0 0;
      call = receive 1 (0 ∷ 2 ∷ []) 34;
      expected = answered (channel 0 3 0 3);
    }
    ∷ record { table = channel 0 0 0 0; call = receive 1 (0 ∷ []) 34; expected = answered (channel 0 3 0 0) }
    ∷ record {
      table = channel 0 0 0 0;
      call = receive 1 (1 ∷ []) 34;
      expected = answered (channel_with 3 0 0 0 0);
    }
    ∷ record { table = channel 0 1 0 0; call = receive 1 (2 ∷ []) 34; expected = answered (channel 0 1 0 3) }
    -- the order: 13, 24, 14, 16
    ∷ record { table = channel 0 0 0 0; call = receive 1 (2 ∷ 3 ∷ []) 34; expected = refused 13 }
    ∷ record { table = channel 0 0 0 0; call = receive 1 (2 ∷ []) 0; expected = refused 24 }
    ∷ record { table = full_receiver; call = save 1 (1 ∷ []); expected = refused 24 }
    ∷ record { table = full_receiver; call = save 1 (0 ∷ 1 ∷ []); expected = refused 14 }
    ∷ []

-- ---- sends (docs/MANUAL.md, "Steps")
unfoldable pub send_cases : List Case
send_cases =
    -- after checkpoint 3 of process 1, and behind the message that there is; it waits
    record {
      table = table_c;
      call = send 1 0;
      expected = answered (case_table 2 1 (1 ∷ 4 ∷ []) (1 ∷ 3 ∷ []) (0 ∷ 0 ∷ []));
    }
    ∷ record {
      table = one_message 1;
      call = send 1 0;
      expected = answered (case_table 2 2 (2 ∷ 1 ∷ []) (0 ∷ 0 ∷ 1 ∷ 0 ∷ []) (1 ∷ 1 ∷ 0 ∷ 0 ∷ []));
    }
    -- 10, by its sender and by its receiver; 11
    ∷ record { table = table_c; call = send 2 0; expected = refused 10 }
    ∷ record { table = table_c; call = send 0 2; expected = refused 10 }
    ∷ record { table = table_c; call = send 1 1; expected = refused 11 }
    ∷ []

-- ---- many sets (docs/MANUAL.md, "Many sets at once")
-- Three processes with two checkpoints each, of which 0 has sent since its last one, and 1 has received it.
unfoldable pub three_of_two : List ℕ
three_of_two = case_table 3 1 (2 ∷ 2 ∷ 2 ∷ []) (0 ∷ 1 ∷ []) (1 ∷ 2 ∷ [])

-- All 32 processes, with one checkpoint each.
unfoldable pub thirty_two : List ℕ
thirty_two = case_table 32 0 (replicate 32 1) [] []

-- A case of many sets: the numbers of the scratch, the bytes of the answer buffer, and the answer.
pub record SetCase : Type 0 where
  pub table : List ℕ
  pub sets : List ℕ
  pub numbers : ℕ
  pub room : ℕ
  pub expected : Answer

unfoldable pub all_sets_hold : List SetCase → Bool
all_sets_hold [] = true
all_sets_hold (c ∷ rest) =
    same_answer (lines_of_sets_answer c.table c.sets c.numbers c.room) c.expected && all_sets_hold rest

unfoldable pub set_cases : List SetCase
set_cases =
    -- A: each process alone, both, none, and the first again
    record {
      table = table_a;
      sets = (1 ∷ 2 ∷ 3 ∷ 0 ∷ 1 ∷ []);
      numbers = 4;
      room = 20;
      expected = answered (u16s (1 ∷ 1 ∷ 3 ∷ 2 ∷ 1 ∷ 1 ∷ 3 ∷ 3 ∷ 1 ∷ 1 ∷ []));
    }
    -- C: of the two lines of single holders neither is below the other
    ∷ record {
      table = table_c;
      sets = (3 ∷ 1 ∷ 0 ∷ 2 ∷ []);
      numbers = 4;
      room = 16;
      expected = answered (u16s (0 ∷ 3 ∷ 0 ∷ 4 ∷ 1 ∷ 4 ∷ 1 ∷ 3 ∷ []));
    }
    -- three processes: the first two; the first and the last; all
    ∷ record {
      table = three_of_two;
      sets = (3 ∷ 5 ∷ 7 ∷ []);
      numbers = 9;
      room = 18;
      expected = answered (u16s (1 ∷ 1 ∷ 2 ∷ 1 ∷ 1 ∷ 1 ∷ 1 ∷ 1 ∷ 1 ∷ []));
    }
    -- and the last two, the second alone and the last alone
    ∷ record {
      table = three_of_two;
      sets = (6 ∷ 2 ∷ 4 ∷ []);
      numbers = 9;
      room = 18;
      expected = answered (u16s (2 ∷ 1 ∷ 1 ∷ 2 ∷ 1 ∷ 2 ∷ 2 ∷ 2 ∷ 1 ∷ []));
    }
    -- process 31 of 32
    ∷ record {
      table = thirty_two;
      sets = (2147483648 ∷ []);
      numbers = 1024;
      room = 64;
      expected = answered (u16s (replicate 31 1 ++ (0 ∷ [])));
    }
    -- no sets fit any buffer, but not any scratch
    ∷ record { table = table_a; sets = []; numbers = 4; room = 0; expected = answered [] }
    ∷ record { table = table_a; sets = []; numbers = 3; room = 0; expected = refused 15 }
    -- the order: the table's, 25, 12, 15, 16
    ∷ record { table = late_receipt; sets = (replicate 257 4); numbers = 0; room = 0; expected = refused 9 }
    ∷ record { table = table_a; sets = (replicate 257 4); numbers = 0; room = 0; expected = refused 25 }
    ∷ record { table = table_a; sets = (1 ∷ 4 ∷ []); numbers = 0; room = 0; expected = refused 12 }
    ∷ record { table = table_a; sets = (1 ∷ 2 ∷ []); numbers = 3; room = 0; expected = refused 15 }
    ∷ record { table = table_a; sets = (1 ∷ 2 ∷ []); numbers = 4; room = 7; expected = refused 16 }
    ∷ []

-- What stands in a scratch of six numbers afterwards: on success the lines of A's single holders, and what was there;
-- under 16 all that was there.
unfoldable pub scratch_cases : Bool
scratch_cases =
    let before : List ℕ = 9 ∷ 9 ∷ 9 ∷ 9 ∷ 8 ∷ 7 ∷ [] in
    same_bytes (scratch_of_sets 0 table_a before) (1 ∷ 1 ∷ 3 ∷ 2 ∷ 8 ∷ 7 ∷ [])
    && same_bytes (scratch_of_sets 16 table_a before) before

-- ---- named checkpoints (docs/MANUAL.md, "Checkpoints that stand together")
-- The manual's example of a path: checkpoint 2 of process 0 leads to itself in A, by the messages at positions 3 and 2.
unfoldable pub ZigzagExample : Type 0
ZigzagExample = Zigzag (decode table_a) 0 2 0 2

-- The facts that the source tells of its Figure 1: three processes, a path from C_{1,0} to C_{3,1} by m1 and m2, a
-- cycle of C_{2,1} by m5 and m4, one of C_{3,1} by m3, m1 and m2. The source counts processes from 1.
unfoldable pub figure_one : List ℕ
figure_one =
    case_table 3 5 (2 ∷ 2 ∷ 2 ∷ []) (0 ∷ 0 ∷ 1 ∷ 0 ∷ 2 ∷ 1 ∷ 0 ∷ 1 ∷ 1 ∷ 1 ∷ [])
    (1 ∷ 1 ∷ 2 ∷ 1 ∷ 0 ∷ 1 ∷ 1 ∷ 1 ∷ 0 ∷ 2 ∷ [])

-- Process 1 sends to 2 in the interval in which it receives from 0, perhaps before it: a path that is not causal.
unfoldable pub one_interval : List ℕ
one_interval = case_table 3 2 (2 ∷ 3 ∷ 3 ∷ []) (0 ∷ 1 ∷ 1 ∷ 1 ∷ []) (1 ∷ 2 ∷ 2 ∷ 2 ∷ [])

unfoldable pub standing_cases : List Case
standing_cases =
    -- A: no names; one; both processes; a checkpoint with a path to itself; a path from one name to the other
    record { table = table_a; call = stand [] [] 4; expected = answered (u16s (3 ∷ 3 ∷ [])) }
    ∷ record { table = table_a; call = stand (0 ∷ []) (0 ∷ []) 4; expected = answered (u16s (0 ∷ 1 ∷ [])) }
    ∷ record { table = table_a; call = stand (1 ∷ []) (2 ∷ []) 4; expected = answered (u16s (3 ∷ 2 ∷ [])) }
    ∷ record {
      table = table_a;
      call = stand (0 ∷ 1 ∷ []) (1 ∷ 1 ∷ []) 4;
      expected = answered (u16s (1 ∷ 1 ∷ []));
    }
    ∷ record { table = table_a; call = stand (0 ∷ []) (2 ∷ []) 4; expected = answered [] }
    ∷ record { table = table_a; call = stand (0 ∷ 1 ∷ []) (1 ∷ 2 ∷ []) 4; expected = answered [] }
    -- D: the useless checkpoint, and a path by one message
    ∷ record { table = table_d; call = stand (0 ∷ []) (1 ∷ []) 4; expected = answered [] }
    ∷ record { table = table_d; call = stand (1 ∷ []) (1 ∷ []) 4; expected = answered (u16s (2 ∷ 1 ∷ [])) }
    ∷ record { table = table_d; call = stand (0 ∷ 1 ∷ []) (0 ∷ 1 ∷ []) 4; expected = answered [] }
    -- Figure 1: its two useless checkpoints; the others that were named there
    ∷ record { table = figure_one; call = stand (1 ∷ []) (1 ∷ []) 6; expected = answered [] }
    ∷ record { table = figure_one; call = stand (2 ∷ []) (1 ∷ []) 6; expected = answered [] }
    ∷ record { table = figure_one; call = stand (0 ∷ 2 ∷ []) (0 ∷ 1 ∷ []) 6; expected = answered [] }
    ∷ record {
      table = figure_one;
      call = stand (0 ∷ []) (0 ∷ []) 6;
      expected = answered (u16s (0 ∷ 0 ∷ 0 ∷ []));
    }
    -- each on a line, and not both on one, though neither came before the other; with the process between
    ∷ record {
      table = one_interval;
      call = stand (0 ∷ []) (1 ∷ []) 6;
      expected = answered (u16s (1 ∷ 1 ∷ 1 ∷ []));
    }
    ∷ record {
      table = one_interval;
      call = stand (2 ∷ []) (2 ∷ []) 6;
      expected = answered (u16s (2 ∷ 3 ∷ 2 ∷ []));
    }
    ∷ record { table = one_interval; call = stand (0 ∷ 2 ∷ []) (1 ∷ 2 ∷ []) 6; expected = answered [] }
    ∷ record { table = one_interval; call = stand (0 ∷ 1 ∷ []) (1 ∷ 2 ∷ []) 6; expected = answered [] }
    -- unsaved messages are received, in the last interval, and have a part in paths; waiting ones are not
    ∷ record { table = unsaved_a; call = stand (1 ∷ []) (2 ∷ []) 4; expected = answered [] }
    ∷ record { table = crossing 1; call = stand (0 ∷ []) (0 ∷ []) 4; expected = answered (u16s (0 ∷ 0 ∷ [])) }
    ∷ record { table = crossing 0; call = stand (0 ∷ []) (0 ∷ []) 4; expected = answered (u16s (0 ∷ 1 ∷ [])) }
    -- the order: the table's, 20, 21, 22, 16, each over the whole lists
    ∷ record { table = late_receipt; call = stand (2 ∷ []) [] 0; expected = refused 9 }
    ∷ record { table = table_a; call = stand (2 ∷ []) [] 0; expected = refused 20 }
    ∷ record { table = table_a; call = stand [] (0 ∷ []) 4; expected = refused 20 }
    ∷ record { table = table_a; call = stand (0 ∷ 2 ∷ []) (3 ∷ 0 ∷ []) 0; expected = refused 21 }
    ∷ record { table = table_a; call = stand (0 ∷ 0 ∷ []) (1 ∷ 1 ∷ []) 4; expected = refused 21 }
    ∷ record { table = table_a; call = stand (1 ∷ 0 ∷ []) (1 ∷ 1 ∷ []) 4; expected = refused 21 }
    ∷ record { table = table_a; call = stand (0 ∷ []) (3 ∷ []) 0; expected = refused 22 }
    -- 16 is of a yes; a no fits any buffer
    ∷ record { table = table_a; call = stand (1 ∷ []) (2 ∷ []) 3; expected = refused 16 }
    ∷ record { table = table_a; call = stand [] [] 0; expected = refused 16 }
    ∷ record { table = table_a; call = stand (0 ∷ []) (2 ∷ []) 0; expected = answered [] }
    ∷ []
