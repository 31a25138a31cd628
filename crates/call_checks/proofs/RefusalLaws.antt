-- The refusals of the calls on a table: the table's checks, and behind them the call's own.
--     ChecksLeft, catches, next, none_left    check after check: those that are left; the next one catches, or does not; none is left
--     table_caught, own_left      the table is refused; it is accepted, and the call's own checks are left
--     table_accepted              where no check of the call catches, none of the table's does
--     Quiet                       none of a call's checks before 16 catches
--     QuietCall, quiet_call       so it is, of a call on a table, by the refusal that was found
--     quiet_by                    then the check of any number is quiet
--     more_left                   further checks behind a call's, of which none catches
--     quiet_front_call            where none of a longer list catches, none of its front does
--     first_of, second_of, neither    a check of two tests
--     quiet_table .. quiet_sheet  each call's list, none of which catches
--     quiet_ceilings, marks_long, quiet_receipt    what a list begins with; 19, by the length of the mark buffer
--     long_scratch, scratch_long  15, by the scratch's length
--     quiet_each, sets_scratch_long, sets_few    of many sets: the checks of the call for each one; 15; 25
-- Assumes nothing.
use mathlib.Core.Bool.{Bool, true, false, ◌||◌}
use mathlib.Core.List.{List, [], ◌∷◌, ◌++◌}
use mathlib.Core.Path.{◌≡◌, refl, sym, ◌∙◌}
use Prim.Native.Nat.{ℕ, ◌*◌, ◌≤◌, ◌<◌}
use borrow.Author.Tests.{le-ltb, ltb-false}
use lib.ListN.{get_or, length}
use Rattle.marks.specs.Room.{marks_size}
use Rattle.process_set.specs.Sets.{high_bit, some_high_bit}
use Rattle.steps.specs.Steps.{receipt_checks, send_checks}
use Rattle.call_checks.specs.CallChecks.{checkpoint_call_checks, keep_sheet_checks, line_of_set_checks, line_under_checks, marked_line_checks, on_table}
use Rattle.call_checks.specs.CallChecks.{lines_of_sets_checks, most_sets, receipt_call_checks, send_call_checks, stand_together_checks}
use Rattle.tables.proofs.CheckLaws.{append_passed, are_refusals, caught_first, caught_by, passed, quiet_front, quiet_none, quiet_number, stopped}
use Rattle.tables.proofs.CheckLaws.{table_refusals}
use Rattle.tables.proofs.ListLaws.{none_below}
use Rattle.tables.specs.Checks.{Check, first_caught, table_checks, table_refusal}
use Rattle.tables.specs.Format.{decode}
use Rattle.tables.specs.Table.{process_count}

-- ---- check after check
-- Of all checks the first that catches is the first of those that are left.
pub record ChecksLeft (all rest : List Check) : Type 0 where
  pub same : first_caught all ≡ first_caught rest

module _ {all rest : List Check} {check : Check} (left : ChecksLeft all (check ∷ rest)) where
  pub catches : check.caught ≡ true → check.number ≡ first_caught all
  catches e = sym (left.same ∙ stopped check rest e)

  pub next : check.caught ≡ false → ChecksLeft all rest
  next e = record { same = left.same ∙ passed check rest _ e refl }

pub none_left : {all : List Check} → ChecksLeft all [] → 0 ≡ first_caught all
none_left left = sym (left.same ∙ quiet_none)

-- ---- behind the table's checks
module _ (table : List ℕ) (own : List Check) where
  pub table_caught : {r : ℕ} → r ≡ table_refusal table → (r ≡ 0 → ⊥) → r ≡ first_caught (on_table table own)
  unfolding table_refusal
  table_caught e nonzero = caught_first (table_checks table) own _ e nonzero

  pub own_left : table_refusal table ≡ 0 → ChecksLeft (on_table table own) own
  unfolding table_refusal
  own_left accepted = record { same = append_passed (table_checks table) own (table_refusals table) accepted }

  table_accepted : first_caught (on_table table own) ≡ 0 → table_refusal table ≡ 0
  unfolding table_refusal
  table_accepted quiet = quiet_front (table_checks table) own quiet

-- None of these checks catches; each has the number of a refusal.
pub record Quiet (checks : List Check) : Type 0 where
  pub refusals : are_refusals checks ≡ true
  pub quiet : first_caught checks ≡ 0

-- None of these checks of a call on a table catches, all but 16, so that the table is accepted.
pub record QuietCall (table : List ℕ) (checks : List Check) : Type 0 where
  pub accepted : table_refusal table ≡ 0
  pub quiet : Quiet checks

pub quiet_call : (table : List ℕ) (own : List Check) → are_refusals own ≡ true → {r : ℕ} → r ≡ first_caught (on_table table own) → r ≡ 0
    → QuietCall table (on_table table own)
unfolding table_checks are_refusals
quiet_call table own refusals e none =
    record { accepted = table_accepted table own (sym e ∙ none); quiet = record { refusals = refusals; quiet = sym e ∙ none } }

pub quiet_by : {table : List ℕ} {checks : List Check} → QuietCall table checks → (n : ℕ) → caught_by n checks ≡ false
quiet_by {checks = checks} q = quiet_number checks q.quiet.refusals q.quiet.quiet

-- further checks behind those of a call, of which none catches
pub more_left : {table : List ℕ} {checks : List Check} → QuietCall table checks → (more : List Check) → ChecksLeft (checks ++ more) more
more_left {checks = checks} q more = record { same = append_passed checks more q.quiet.refusals q.quiet.quiet }

quiet_front_call : {table : List ℕ} (checks last : List Check) → are_refusals checks ≡ true → QuietCall table (checks ++ last)
    → QuietCall table checks
quiet_front_call checks last refusals q =
    record { accepted = q.accepted; quiet = record { refusals = refusals; quiet = quiet_front checks last q.quiet.quiet } }

-- ---- a check of two tests
module _ (a b : Bool) where
  pub first_of : a ≡ true → (a || b) ≡ true
  first_of e = rw e

  pub second_of : a ≡ false → b ≡ true → (a || b) ≡ true
  second_of e e' = rw e e'

  pub neither : a ≡ false → b ≡ false → (a || b) ≡ false
  neither e e' = rw e e'

-- ---- the lists of checks, none of which catches; where one begins with another, none of that catches either
module _ (table : List ℕ) where
  pub quiet_table : {r : ℕ} → r ≡ table_refusal table → r ≡ 0 → QuietCall table (table_checks table)
  unfolding table_refusal table_checks are_refusals
  quiet_table = quiet_call table [] refl

  pub quiet_set : (set : ℕ) {r : ℕ} → r ≡ first_caught (line_of_set_checks table set) → r ≡ 0 → QuietCall table (line_of_set_checks table set)
  unfolding line_of_set_checks are_refusals
  quiet_set set = quiet_call table _ refl

  pub quiet_sets : (sets : List ℕ) (numbers : ℕ) {r : ℕ} → r ≡ first_caught (lines_of_sets_checks table sets numbers) → r ≡ 0
      → QuietCall table (lines_of_sets_checks table sets numbers)
  unfolding lines_of_sets_checks are_refusals
  quiet_sets sets numbers = quiet_call table _ refl

  pub quiet_under : (ceilings : List ℕ) {r : ℕ} → r ≡ first_caught (line_under_checks table ceilings) → r ≡ 0
      → QuietCall table (line_under_checks table ceilings)
  unfolding line_under_checks are_refusals
  quiet_under ceilings = quiet_call table _ refl

  pub quiet_marking : (ceilings : List ℕ) (bytes : ℕ) {r : ℕ} → r ≡ first_caught (marked_line_checks table ceilings bytes) → r ≡ 0
      → QuietCall table (marked_line_checks table ceilings bytes)
  unfolding marked_line_checks line_under_checks table_checks are_refusals
  quiet_marking ceilings bytes = quiet_call table _ refl

  pub quiet_names : (processes states : List ℕ) {r : ℕ} → r ≡ first_caught (stand_together_checks table processes states) → r ≡ 0
      → QuietCall table (stand_together_checks table processes states)
  unfolding stand_together_checks are_refusals
  quiet_names processes states = quiet_call table _ refl

  pub quiet_send : (j i : ℕ) {r : ℕ} → r ≡ first_caught (send_call_checks table j i) → r ≡ 0 → QuietCall table (send_call_checks table j i)
  unfolding send_call_checks send_checks are_refusals
  quiet_send j i = quiet_call table _ refl

  pub quiet_receive : (i : ℕ) (list : List ℕ) {r : ℕ} → r ≡ first_caught (receipt_call_checks table i list) → r ≡ 0
      → QuietCall table (receipt_call_checks table i list)
  unfolding receipt_call_checks receipt_checks are_refusals
  quiet_receive i list = quiet_call table _ refl

  pub quiet_save : (i : ℕ) (list : List ℕ) {r : ℕ} → r ≡ first_caught (checkpoint_call_checks table i list) → r ≡ 0
      → QuietCall table (checkpoint_call_checks table i list)
  unfolding checkpoint_call_checks receipt_call_checks receipt_checks table_checks are_refusals
  quiet_save i list = quiet_call table _ refl

  pub quiet_sheet : (numbers : ℕ) {r : ℕ} → r ≡ first_caught (keep_sheet_checks table numbers) → r ≡ 0
      → QuietCall table (keep_sheet_checks table numbers)
  unfolding keep_sheet_checks are_refusals
  quiet_sheet numbers = quiet_call table _ refl

  module _ (ceilings : List ℕ) (bytes : ℕ) (q : QuietCall table (marked_line_checks table ceilings bytes)) where
    pub quiet_ceilings : QuietCall table (line_under_checks table ceilings)
    unfolding marked_line_checks line_under_checks table_checks are_refusals
    quiet_ceilings = quiet_front_call _ _ refl q

    pub marks_long : marks_size (decode table) ≤ bytes
    unfolding marked_line_checks line_under_checks table_checks caught_by
    marks_long = ltb-false bytes (marks_size (decode table)) (quiet_by q 19)

  pub quiet_receipt : (i : ℕ) (list : List ℕ) → QuietCall table (checkpoint_call_checks table i list)
      → QuietCall table (receipt_call_checks table i list)
  unfolding checkpoint_call_checks receipt_call_checks receipt_checks table_checks are_refusals
  quiet_receipt i list = quiet_front_call _ _ refl

-- ---- the scratch of a keep sheet
module _ (table : List ℕ) (numbers : ℕ) where
  abbrev square : ℕ
  square = process_count (decode table) * process_count (decode table)

  pub long_scratch : table_refusal table ≡ 0 → square ≤ numbers → QuietCall table (keep_sheet_checks table numbers)
  unfolding keep_sheet_checks
  long_scratch accepted long = quiet_sheet table numbers (none_left (next (own_left table _ accepted) (le-ltb numbers square long))) refl

  pub scratch_long : QuietCall table (keep_sheet_checks table numbers) → square ≤ numbers
  unfolding keep_sheet_checks table_checks caught_by
  scratch_long q = ltb-false numbers square (quiet_by q 15)

-- ---- many sets
module _ (table sets : List ℕ) (numbers : ℕ) (q : QuietCall table (lines_of_sets_checks table sets numbers)) where
  -- none of the checks of the call for one of them catches
  pub quiet_each : (k : ℕ) → k < length sets → QuietCall table (line_of_set_checks table (get_or sets k 0))
  unfolding lines_of_sets_checks line_of_set_checks table_checks caught_by some_high_bit
  quiet_each k l =
      quiet_set table (get_or sets k 0)
      (none_left
      (next (own_left table _ q.accepted) (none_below (λ j. high_bit (get_or sets j 0) (process_count (decode table))) (length sets) (quiet_by q 12) k l)))
      refl

  pub sets_scratch_long : process_count (decode table) * process_count (decode table) ≤ numbers
  unfolding lines_of_sets_checks table_checks caught_by
  sets_scratch_long = ltb-false numbers _ (quiet_by q 15)

  pub sets_few : length sets ≤ most_sets
  unfolding lines_of_sets_checks table_checks caught_by
  sets_few = ltb-false most_sets (length sets) (quiet_by q 25)
