-- `settled_line` meets its contract: the ceiling, lowered by the messages.
use mathlib.Core.Path.{◌∙◌}
use native.Mathlib.Omega.{arith}
use Rattle.lines.proofs.LineReads.{line_read}
use Rattle.tables.proofs.ReadLaws.{processes_few}
use Rattle.lines.proofs.settled_line.Goals as goal

pub settle-requires : goal.settle-requires
settle-requires c = record { n_le_most_processes = omega (arith, processes_few _ c.args.table.accepted, c.process_count.ensures) }

pub returns : goal.returns
returns c = c.settle.ensures ∙ line_read _ c.messages.result c.messages.ensures.count c.messages.ensures.sends c.messages.ensures.receipts _
