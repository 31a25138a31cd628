-- What the lines say is kept are the kept checkpoints of the table.
use Rattle.std.proofs.Common.{ap, ◌∙◌}
use lib.ListN.{length}
use Rattle.sheet_entries.proofs.FoundLaws.{checkpoints_found}
use Rattle.tables.proofs.ReadLaws.{counts_known}
use Rattle.sheet_writer.proofs.count_checkpoints.Goals as goal

pub count_kept-requires : goal.count_kept-requires
count_kept-requires c = counts_known _ c.args.holders.table.accepted c.lines.ensures.n c.counts.ensures

pub returns : goal.returns
returns c = c.count_kept.ensures ∙ ap length (checkpoints_found c.lines.ensures.lines_of c.lines.ensures.n c.counts.ensures)
