-- `put_line_under` meets its contract: the first N numbers of the array are the line.
-- Assumes nothing.
use native.Mathlib.Omega.{arith}
use Rattle.chosen_ceilings.proofs.ChosenLaws.{under_read}
use Rattle.tables.proofs.ReadLaws.{processes_few}
use Rattle.chosen_ceilings.proofs.put_line_under.Goals as goal

pub number_array-requires : goal.number_array-requires
number_array-requires c =
    omega (arith, processes_few _ c.args.table.accepted)

pub returns : goal.returns
returns c =
    rw (under_read _ c.args.table.accepted _ c.requires.ceilings_len c.number_array.ensures _ c.line_under.ensures) at c.put_line.ensures
