-- The listing of example A is the text that the manual prints, by computation.
-- Assumes nothing.
use mathlib.Core.Path.{◌≡◌, refl}
use Rattle.call_checks.specs.OrderCases.{case_table}
use Rattle.calls.specs.Cases.{like_a, table_a}
use Rattle.consistency.specs.Ceilings.{ceiling_of, holder_line, line_of, recovery_line, single}
use Rattle.consistency.specs.Lowering.{is_orphan, line_under, lower, pass, passes}
use Rattle.keep_sheet.specs.Sheet.{crosses, keeps_checkpoint, keeps_message, kept_checkpoints, kept_messages}
use Rattle.listings.specs.ExampleA.{example_text}
use Rattle.listings.specs.Listing.{checkpoint_row, hold_row, line_row, listing, listing_of, listing_unless, message_row, share, share_row}
use Rattle.rounding.specs.Rounding.{even_of, rounded_quotient}
use Rattle.tables.specs.Checks.{bad_count, bad_length, bad_process_count, bad_receipt, bad_send, broken_below, broken_channel, first_caught, out_of_turn}
use Rattle.tables.specs.Checks.{outside}
use Rattle.tables.specs.Checks.{same_channel, table_checks, table_refusal, to_itself, too_many_messages, too_short, unknown_process, waits}
use Rattle.tables.specs.Format.{checkpoint_at, count_at, counts_part, decode, message_at, messages_in, process_at, processes_in, receipts_part, sends_part}
use Rattle.tables.specs.Lists.{any, any_below, rows, select, sum, tabulate}
use Rattle.tables.specs.Numbers.{bytes_of, bytes_of_all, number_at}
use Rattle.tables.specs.Table.{checkpoint_total, count_of, message_count, message_of, process_count}
use Rattle.text_writer.specs.Text.{decimal, digits, each, field, row}

pub example_listing : listing_of table_a ≡ example_text
unfolding case_table like_a ceiling_of holder_line line_of recovery_line single is_orphan line_under lower pass passes crosses keeps_checkpoint keeps_message
    kept_checkpoints kept_messages example_text checkpoint_row hold_row line_row listing listing_of listing_unless message_row share share_row even_of
    rounded_quotient bad_count bad_length bad_process_count bad_receipt bad_send broken_below broken_channel first_caught out_of_turn outside same_channel
    table_checks table_refusal to_itself too_many_messages too_short unknown_process waits checkpoint_at count_at counts_part decode message_at messages_in
    process_at processes_in receipts_part sends_part any any_below rows select sum tabulate bytes_of bytes_of_all number_at checkpoint_total count_of
    message_count message_of process_count decimal digits each field row
example_listing = refl
