-- Cases of the table's checks and of the order of a call's: what several of them catch is refused by the first. Assumes
-- nothing.
use Rattle.std.specs.Prelude.{Bool, true, ◌&&◌, List, [], ◌∷◌, ◌++◌, ℕ, eqb, replicate}
use Rattle.call_checks.specs.CallChecks.{checkpoint_call_checks, keep_sheet_checks, line_of_set_checks}
use Rattle.call_checks.specs.CallChecks.{line_under_checks, lines_of_sets_checks, marked_line_checks}
use Rattle.call_checks.specs.CallChecks.{receipt_call_checks, send_call_checks, stand_together_checks}
use Rattle.tables.specs.Checks.{Check, first_caught, table_checks}
use Rattle.tables.specs.Numbers.{u16s}

-- The bytes of a case's table: N, M, the counts, the numbers of its sends and of its receipts, as the document lays
-- them out.
unfoldable pub case_table : ℕ → ℕ → List ℕ → List ℕ → List ℕ → List ℕ
case_table n m counts sends receipts = u16s (n ∷ m ∷ (counts ++ (sends ++ receipts)))

-- Two messages from process 0 wait for process 1, which has so many checkpoints.
unfoldable pub two_waiting : ℕ → List ℕ
two_waiting count = case_table 2 2 (1 ∷ count ∷ []) (0 ∷ 0 ∷ 0 ∷ 0 ∷ []) (1 ∷ 0 ∷ 1 ∷ 0 ∷ [])

-- Two processes with one checkpoint each, and a message.
unfoldable pub one_entry : ℕ → ℕ → ℕ → ℕ → List ℕ
one_entry j y i r = case_table 2 1 (1 ∷ 1 ∷ []) (j ∷ y ∷ []) (i ∷ r ∷ [])

-- The checks of a call, and the number that it is refused by; 0 for none.
pub record OrderCase : Type 0 where
  pub checks : List Check
  pub first : ℕ

unfoldable pub order_cases : List OrderCase
order_cases =
    -- a list that falls and passes over the older message; that passes it over; of a full process; no fault
    record { checks = receipt_call_checks (two_waiting 1) 1 (1 ∷ 1 ∷ []); first = 13 }
    ∷ record { checks = receipt_call_checks (two_waiting 1) 1 (1 ∷ []); first = 24 }
    ∷ record { checks = receipt_call_checks (two_waiting 4096) 1 (0 ∷ []); first = 0 }
    ∷ record { checks = receipt_call_checks (two_waiting 1) 2 (2 ∷ []); first = 10 }
    -- a full process with a bad list, with one that passes over, and with a good one
    ∷ record { checks = checkpoint_call_checks (two_waiting 4096) 1 (2 ∷ []); first = 13 }
    ∷ record { checks = checkpoint_call_checks (two_waiting 4096) 1 (1 ∷ []); first = 24 }
    ∷ record { checks = checkpoint_call_checks (two_waiting 4096) 1 (0 ∷ []); first = 14 }
    -- a send of one unknown process twice, and of a known one
    ∷ record { checks = send_call_checks (two_waiting 1) 2 2; first = 10 }
    ∷ record { checks = send_call_checks (two_waiting 1) 1 1; first = 11 }
    -- ceilings of another number, too high; too high, with too few marks; with too few marks
    ∷ record { checks = line_under_checks (two_waiting 1) (9 ∷ []); first = 17 }
    ∷ record { checks = marked_line_checks (two_waiting 1) (9 ∷ 9 ∷ []) 0; first = 18 }
    ∷ record { checks = marked_line_checks (two_waiting 1) (1 ∷ 1 ∷ []) 0; first = 19 }
    -- names of unequal length and of an unknown process; of one, with a number too high; with a number too high
    ∷ record { checks = stand_together_checks (two_waiting 1) (2 ∷ []) []; first = 20 }
    ∷ record { checks = stand_together_checks (two_waiting 1) (2 ∷ []) (9 ∷ []); first = 21 }
    ∷ record { checks = stand_together_checks (two_waiting 1) (1 ∷ []) (9 ∷ []); first = 22 }
    -- a table without a process; a process without a checkpoint, with one too many, with all that it may have
    ∷ record { checks = table_checks (case_table 0 0 [] [] []); first = 2 }
    ∷ record { checks = table_checks (case_table 2 0 (1 ∷ 0 ∷ []) [] []); first = 5 }
    ∷ record { checks = table_checks (case_table 2 0 (1 ∷ 4097 ∷ []) [] []); first = 5 }
    ∷ record { checks = table_checks (case_table 2 0 (1 ∷ 4096 ∷ []) [] []); first = 0 }
    -- an unknown sender; an unknown receiver; one that is both; a known one, with bad numbers; both bad; one bad
    ∷ record { checks = table_checks (one_entry 2 0 0 0); first = 6 }
    ∷ record { checks = table_checks (one_entry 0 0 2 0); first = 6 }
    ∷ record { checks = table_checks (one_entry 2 0 2 0); first = 6 }
    ∷ record { checks = table_checks (one_entry 0 1 0 2); first = 7 }
    ∷ record { checks = table_checks (one_entry 0 1 1 2); first = 8 }
    ∷ record { checks = table_checks (one_entry 0 0 1 2); first = 9 }
    -- process 2 of two in a set
    ∷ record { checks = line_of_set_checks (two_waiting 1) 4; first = 12 }
    -- the table before all else
    ∷ record { checks = line_of_set_checks [] 4; first = 1 }
    ∷ record { checks = keep_sheet_checks [] 0; first = 1 }
    ∷ record { checks = keep_sheet_checks (two_waiting 1) 3; first = 15 }
    ∷ []

-- The same of many sets.
unfoldable pub set_order_cases : List OrderCase
set_order_cases =
    -- 257 sets, of which all have a high bit, with a scratch that is short; 256 of them; 256 good ones; with room
    record { checks = lines_of_sets_checks (two_waiting 1) (replicate 257 4) 3; first = 25 }
    ∷ record { checks = lines_of_sets_checks (two_waiting 1) (replicate 256 4) 3; first = 12 }
    ∷ record { checks = lines_of_sets_checks (two_waiting 1) (replicate 256 3) 3; first = 15 }
    ∷ record { checks = lines_of_sets_checks (two_waiting 1) (replicate 256 3) 4; first = 0 }
    -- the last of three sets alone has a high bit; the first alone; no sets, and a scratch that is short
    ∷ record { checks = lines_of_sets_checks (two_waiting 1) (0 ∷ 3 ∷ 4 ∷ []) 4; first = 12 }
    ∷ record { checks = lines_of_sets_checks (two_waiting 1) (4 ∷ 3 ∷ 0 ∷ []) 4; first = 12 }
    ∷ record { checks = lines_of_sets_checks (two_waiting 1) [] 3; first = 15 }
    -- the table before all else
    ∷ record { checks = lines_of_sets_checks [] (replicate 257 4) 0; first = 1 }
    ∷ []

-- Each is refused so.
unfoldable pub in_order : List OrderCase → Bool
in_order [] = true
in_order (c ∷ rest) = eqb (first_caught c.checks) c.first && in_order rest
