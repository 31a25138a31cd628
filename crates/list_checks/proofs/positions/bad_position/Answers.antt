-- `positions::bad_position` meets its contract: it hands over the receipts.
-- Assumes nothing.
use mathlib.Core.Path.{refl, ◌∙◌}
use Rattle.list_checks.proofs.PositionLaws.{bad_positions}
use Rattle.tables.proofs.ReadLaws.{messages_read}
use Rattle.list_checks.proofs.positions.bad_position.Goals as goal

pub not_waiting-requires : goal.not_waiting-requires
not_waiting-requires c =
    (messages_read c.args.table.accepted c.message_count.ensures refl c.receipts.ensures).receipts_size

pub returns : goal.returns
returns c =
    c.not_waiting.ensures
    ∙ bad_positions (messages_read c.args.table.accepted c.message_count.ensures refl c.receipts.ensures) _ _
