-- `passing::passes_over` meets its contract: it hands over the sends and the receipts.
-- Assumes nothing.
use mathlib.Core.Path.{refl, ◌∙◌}
use Rattle.list_checks.proofs.PassingLaws.{listed_entries, passes_is}
use Rattle.tables.proofs.ReadLaws.{messages_read}
use Rattle.list_checks.proofs.passing.passes_over.Goals as goal

pub skips_older-requires : goal.skips_older-requires
skips_older-requires c =
    listed_entries (messages_read c.args.table.accepted refl c.sends.ensures c.receipts.ensures) _ _ c.requires.list_value c.requires.list_value_2

pub returns : goal.returns
returns c =
    c.skips_older.ensures
    ∙ passes_is (messages_read c.args.table.accepted refl c.sends.ensures c.receipts.ensures) _ _ c.requires.list_value
