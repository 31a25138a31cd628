-- `recovery_line` meets its contract: all processes are in the set of all 32 bits.
use mathlib.Core.Path.{ap, ◌∙◌}
use Rattle.lines.proofs.LineReads.{all_hold_lem}
use Rattle.process_set.specs.Sets.{all_processes}
use Rattle.tables.specs.Arrays.{array_of}
use Rattle.lines.proofs.recovery_line.Goals as goal

pub returns : goal.returns
unfolding all_processes
returns c = c.line_of_set.ensures ∙ ap array_of (all_hold_lem _ c.args.table.accepted)
