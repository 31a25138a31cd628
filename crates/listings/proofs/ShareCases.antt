-- The cases of the share hold of the definitions: a statement for each list, by computation.
-- Assumes nothing.
use mathlib.Core.Bool.{true}
use mathlib.Core.Path.{◌≡◌, refl}
use Rattle.consistency.specs.Ceilings.{ceiling_of, holder_line, line_of, single}
use Rattle.consistency.specs.Lowering.{is_orphan, line_under, lower, pass, passes}
use Rattle.keep_sheet.specs.Sheet.{keeps_checkpoint, kept_checkpoints}
use Rattle.call_checks.specs.OrderCases.{case_table}
use Rattle.calls.specs.Cases.{like_a, table_b, table_c, table_d}
use Rattle.listings.specs.Listing.{share}
use Rattle.rounding.specs.Rounding.{even_of, rounded_quotient}
use Rattle.listings.specs.ShareCases.{all_portions, all_shares, portions, share_cases}
use Rattle.tables.specs.Format.{checkpoint_at, count_at, counts_part, decode, message_at, messages_in, process_at, processes_in, receipts_part, sends_part}
use Rattle.tables.specs.Lists.{any_below, rows, select, sum, tabulate}
use Rattle.tables.specs.Numbers.{bytes_of, bytes_of_all, number_at}
use Rattle.tables.specs.Table.{checkpoint_total, count_of, message_count, message_of, process_count}

pub all-portions : all_portions portions ≡ true
unfolding even_of rounded_quotient all_portions portions
all-portions = refl

pub share_cases_lem : all_shares share_cases ≡ true
unfolding even_of rounded_quotient all_shares share_cases share checkpoint_total case_table like_a table_b table_c table_d processes_in messages_in counts_part
    sends_part receipts_part count_at process_at checkpoint_at message_at decode number_at bytes_of bytes_of_all tabulate any_below rows select sum
    process_count message_count count_of message_of ceiling_of line_of single is_orphan lower pass passes line_under holder_line keeps_checkpoint
    kept_checkpoints
share_cases_lem = refl
