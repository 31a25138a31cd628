-- The second number of the bytes is M.
use Rattle.run_table.proofs.run_table_messages.Goals as goal
use Rattle.std.proofs.Common.{sym, ◌∙◌}
use Rattle.tables.proofs.FormatLaws.{decode-messages}
use Rattle.tables.specs.Format.{messages_in}

pub returns : goal.returns
unfolding messages_in
returns c = c.u16_or_zero.ensures ∙ sym (decode-messages _)
