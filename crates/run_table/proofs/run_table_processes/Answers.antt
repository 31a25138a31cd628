-- The first number of the bytes is N.
use Rattle.run_table.proofs.run_table_processes.Goals as goal
use Rattle.std.proofs.Common.{sym, ◌∙◌}
use Rattle.tables.proofs.FormatLaws.{decode-processes}
use Rattle.tables.specs.Format.{processes_in}

pub returns : goal.returns
unfolding processes_in
returns c = c.u16_or_zero.ensures ∙ sym (decode-processes _)
