-- The scratch holds the lines of single holders once they are put to its front.
use Rattle.holder_lines.proofs.ScratchLaws.{lines-stand}
use Rattle.set_lines.proofs.put_lines_of_sets.Goals as goal

pub invariant_of-put_each : goal.invariant_of-put_each
invariant_of-put_each c =
    record { lines_of = record { accepted = c.args.table.accepted; lines = lines-stand _ _ _ c.requires.table_in_bounds c.fill_lines.ensures } }
