-- `ceiling_of_set` meets its contract: the ceiling from the counts.
use mathlib.Core.Path.{◌∙◌}
use Rattle.lines.proofs.LineReads.{ceiling_read}
use Rattle.tables.proofs.ReadLaws.{counts_known}
use Rattle.lines.proofs.ceiling_of_set.Goals as goal

pub ceiling-requires : goal.ceiling-requires
ceiling-requires c = counts_known _ c.args.table.accepted c.process_count.ensures c.counts.ensures

pub returns : goal.returns
returns c = c.ceiling.ensures ∙ ceiling_read _ c.args.table.accepted c.process_count.ensures c.counts.ensures _
