-- The cases of the order of a call's checks, by computation.
-- Assumes nothing.
use mathlib.Core.Bool.{true}
use mathlib.Core.Path.{◌≡◌, refl}
use Rattle.call_checks.specs.CallChecks.{checkpoint_call_checks, keep_sheet_checks, line_of_set_checks, line_under_checks, marked_line_checks}
use Rattle.call_checks.specs.CallChecks.{lines_of_sets_checks, most_sets, receipt_call_checks, send_call_checks, stand_together_checks}
use Rattle.call_checks.specs.OrderCases.{case_table, in_order, one_entry, order_cases, set_order_cases, two_waiting}
use Rattle.consistency.specs.Ceilings.{above_counts}
use Rattle.marks.specs.Room.{marks_size}
use Rattle.process_set.specs.Sets.{high_bit, member, some_high_bit}
use Rattle.steps.specs.Steps.{bad_position, not_rising, not_rising_after, passes_over, receipt_checks, send_checks, waits_for}
use Rattle.tables.specs.Checks.{bad_count, bad_length, bad_process_count, bad_receipt, bad_send, broken_below, broken_channel, first_caught, out_of_turn}
use Rattle.tables.specs.Checks.{outside}
use Rattle.tables.specs.Checks.{same_channel, table_checks, to_itself, too_many_messages, too_short, unknown_process, waits}
use Rattle.tables.specs.Format.{checkpoint_at, count_at, counts_part, decode, message_at, messages_in, process_at, processes_in, receipts_part, sends_part}
use Rattle.tables.specs.Lists.{any, any_below, sum, tabulate}
use Rattle.tables.specs.Numbers.{bytes_of, bytes_of_all, number_at}
use Rattle.tables.specs.Table.{checkpoint_total, count_of, message_count, message_of, process_count}
use Rattle.zigzag.specs.Names.{not_below_counts, unknown_named}

pub order_cases_lem : in_order order_cases ≡ true
unfolding in_order order_cases one_entry two_waiting case_table checkpoint_call_checks keep_sheet_checks line_of_set_checks line_under_checks marked_line_checks
    receipt_call_checks send_call_checks stand_together_checks above_counts marks_size high_bit member bad_position not_rising not_rising_after passes_over
    receipt_checks send_checks waits_for bad_count bad_length bad_process_count bad_receipt bad_send broken_below broken_channel first_caught out_of_turn
    outside same_channel table_checks to_itself too_many_messages too_short unknown_process waits checkpoint_at count_at counts_part decode message_at
    messages_in process_at processes_in receipts_part sends_part any any_below sum tabulate bytes_of bytes_of_all number_at checkpoint_total count_of
    message_count message_of process_count not_below_counts unknown_named
order_cases_lem = refl

-- those of many sets, by what they compute
pub set_order_cases_lem : in_order set_order_cases ≡ true
unfolding in_order set_order_cases two_waiting case_table lines_of_sets_checks most_sets some_high_bit high_bit member bad_count bad_length bad_process_count
    bad_receipt bad_send broken_below broken_channel first_caught out_of_turn outside same_channel table_checks to_itself too_many_messages too_short
    unknown_process waits checkpoint_at count_at counts_part decode message_at messages_in process_at processes_in receipts_part sends_part any any_below
    tabulate bytes_of bytes_of_all number_at count_of message_count message_of process_count
set_order_cases_lem = refl
