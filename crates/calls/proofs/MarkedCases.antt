-- The marked cases hold of the definitions, and so do the cases of lines under ceilings and by marking, of receipts, of channels, of sends, of named
-- checkpoints and of many sets, with their scratch: a statement each, by computation.
-- Assumes nothing.
use mathlib.Core.Bool.{true}
use mathlib.Core.List.{List, [], ◌∷◌}
use mathlib.Core.Path.{◌≡◌, refl, subst}
use Prim.Native.Nat.{ℕ}
use native.Mathlib.Omega.{arith}
use Rattle.consistency.proofs.CeilingLaws.{ceiling_checked}
use Rattle.marking.proofs.SameLine.{same_line}
use Rattle.marking.specs.Procedure.{EndsWith}
use Rattle.tables.proofs.AcceptLaws.{facts}
use Rattle.tables.specs.Checks.{bad_count, bad_length, bad_process_count, bad_receipt, bad_send, broken_below, broken_channel, first_caught, out_of_turn}
use Rattle.tables.specs.Checks.{outside}
use Rattle.tables.specs.Checks.{same_channel, table_checks, table_refusal, to_itself, too_many_messages, too_short, unknown_process, waits}
use Rattle.tables.specs.Format.{checkpoint_at, count_at, counts_part, decode, encode, entries_of, message_at, messages_in, process_at, processes_in}
use Rattle.tables.specs.Format.{receipts_part, sends_part}
use Rattle.tables.specs.Lists.{any, any_below, rows, select, sum, tabulate}
use Rattle.tables.specs.Numbers.{bytes_of, bytes_of_all, number_at}
use Rattle.tables.specs.Table.{checkpoint_total, count_of, message_count, message_of, process_count}
use Rattle.consistency.specs.Ceilings.{above_counts, ceiling_of, holder_line, holder_lines, line_of, recovery_line, single}
use Rattle.consistency.specs.Lowering.{is_orphan, line_under, lower, pass, passes}
use Rattle.process_set.specs.Sets.{high_bit, member, some_high_bit}
use Rattle.steps.specs.Steps.{after_checkpoint, after_receipt, after_rollback, after_send, bad_position, not_rising, not_rising_after, passes_over, put_back}
use Rattle.steps.specs.Steps.{receipt_checks, received_at, remaining, send_checks, stays, waits_for}
use Rattle.keep_sheet.specs.Sheet.{crosses, keeps_checkpoint, keeps_message, kept_checkpoints, kept_messages, sheet}
use Rattle.calls.specs.Answers.{answer, unless}
use Rattle.calls.specs.Calls.{checkpoint_answer, keep_sheet_answer, line_answer, line_of_set_answer, line_under_answer, marked_line_answer, receipt_answer}
use Rattle.calls.specs.Calls.{lines_of_sets, lines_of_sets_answer, lines_unless, recovery_line_answer, rollback_answer, scratch_of_sets, send_answer}
use Rattle.calls.specs.Calls.{stand_together_answer, standing_bytes}
use Rattle.marks.specs.Room.{marks_size}
use Rattle.call_checks.specs.CallChecks.{checkpoint_call_checks, keep_sheet_checks, line_of_set_checks, line_under_checks, marked_line_checks}
use Rattle.call_checks.specs.CallChecks.{receipt_call_checks}
use Rattle.call_checks.specs.CallChecks.{lines_of_sets_checks, most_sets, send_call_checks, stand_together_checks}
use Rattle.zigzag.specs.Names.{not_below_counts, unknown_named}
use Rattle.zigzag.specs.Paths.{first, received_in, then}
use Rattle.zigzag.specs.Together.{misses, named_ceiling, named_line, put_named}
use Rattle.calls.specs.Cases.{MarkingExample, ZigzagExample, all_hold, answer_of, ceiling_cases, channel_cases, channel_with, crossing}
use Rattle.calls.specs.Cases.{figure_one, full, full_receiver, like_a, marked_cases, marking_cases, nine_marks, one_interval, one_message, receipt_cases}
use Rattle.call_checks.specs.OrderCases.{case_table}
use Rattle.calls.specs.Cases.{same_answer, same_bytes, scratch_cases, send_cases, set_cases, standing_cases, table_a, table_b, table_c, table_d, ten_marks}
use Rattle.calls.specs.Cases.{all_sets_hold, thirty_two, three_of_two}

-- a statement for each table of cases, by what all of them compute
pub all_cases : (all_hold marked_cases ≡ true) × (all_hold ceiling_cases ≡ true) × (all_hold marking_cases ≡ true) × (all_hold receipt_cases ≡ true)
    × (all_hold channel_cases ≡ true) × (all_hold standing_cases ≡ true) × (all_hold send_cases ≡ true)
unfolding first_caught outside too_short bad_process_count too_many_messages bad_length bad_count unknown_process to_itself bad_send bad_receipt same_channel
    waits out_of_turn broken_below broken_channel table_checks table_refusal processes_in messages_in counts_part sends_part receipts_part count_at process_at
    checkpoint_at message_at decode entries_of encode number_at bytes_of bytes_of_all tabulate any any_below process_count message_count count_of message_of
    ceiling_of line_of recovery_line single is_orphan lower pass passes sum line_under member high_bit stays put_back remaining after_rollback holder_line
    keeps_checkpoint crosses keeps_message select rows kept_checkpoints kept_messages sheet unless answer line_answer recovery_line_answer line_of_set_checks
    line_of_set_answer keep_sheet_checks keep_sheet_answer rollback_answer case_table like_a table_b table_c table_d answer_of same_bytes same_answer all_hold
    marked_cases above_counts line_under_checks line_under_answer ceiling_cases nine_marks ten_marks marks_size checkpoint_total marked_line_checks
    marked_line_answer marking_cases waits_for bad_position not_rising_after not_rising passes_over receipt_checks received_at after_receipt after_checkpoint
    receipt_call_checks checkpoint_call_checks receipt_answer checkpoint_answer crossing one_message full receipt_cases channel_with full_receiver channel_cases
    unknown_named not_below_counts put_named named_ceiling named_line misses stand_together_checks standing_bytes stand_together_answer figure_one one_interval
    standing_cases send_checks after_send send_call_checks send_answer send_cases
all_cases = (refl, refl, refl, refl, refl, refl, refl)

-- and of many sets, with their scratch
pub all_set_cases : (all_sets_hold set_cases ≡ true) × (scratch_cases ≡ true)
unfolding first_caught outside too_short bad_process_count too_many_messages bad_length bad_count unknown_process to_itself bad_send bad_receipt same_channel
    waits out_of_turn broken_below broken_channel table_checks processes_in messages_in counts_part sends_part receipts_part count_at process_at checkpoint_at
    message_at decode number_at bytes_of bytes_of_all tabulate any any_below process_count message_count count_of message_of ceiling_of line_of single is_orphan
    lower pass passes sum line_under member high_bit holder_line rows unless answer case_table like_a table_c same_bytes same_answer some_high_bit most_sets
    lines_of_sets_checks lines_of_sets lines_of_sets_answer holder_lines lines_unless scratch_of_sets three_of_two thirty_two set_cases scratch_cases
    all_sets_hold
all_set_cases = (refl, refl)

pub marked_cases_lem : all_hold marked_cases ≡ true
marked_cases_lem = all_cases.0

-- by the theorem: the procedure ends, and with the computed line
pub marking_example : MarkingExample
unfolding first_caught outside too_short bad_process_count too_many_messages bad_length bad_count unknown_process to_itself bad_send bad_receipt same_channel
    waits out_of_turn broken_below broken_channel table_checks table_refusal processes_in messages_in counts_part sends_part receipts_part count_at process_at
    checkpoint_at message_at decode number_at bytes_of bytes_of_all tabulate any any_below process_count message_count count_of message_of is_orphan lower pass
    passes sum line_under case_table like_a above_counts MarkingExample
marking_example =
    let ceilings : List ℕ = 2 ∷ 2 ∷ [] in
    let agrees = same_line (decode table_a) (facts table_a refl).well_formed ceilings (ceiling_checked (decode table_a) ceilings refl refl) in
    subst (EndsWith (decode table_a) ceilings) (agrees.same agrees.ends.0 agrees.ends.1) agrees.ends.1

-- process 0 sent message 3 after its checkpoint 2; process 1 received it in interval 1, in which it sent message 2; and process 0 received
-- that before its checkpoint 2
pub zigzag_example : ZigzagExample
unfolding processes_in messages_in counts_part sends_part receipts_part count_at process_at checkpoint_at message_at decode number_at bytes_of bytes_of_all
    tabulate message_of case_table like_a received_in ZigzagExample
zigzag_example = record {
  last = 2;
  chain =
      then (first 3 (record { delivered = omega arith; by_process = refl; after = omega arith })) 2
      (record { delivered = omega arith; by_receiver = refl; same_or_later = omega arith });
  ends = record { by_process = refl; before = omega arith };
}
