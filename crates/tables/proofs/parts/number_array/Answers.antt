-- `parts::number_array` meets its contract: the numbers stand in front of what is left of the zeros (`array_copied`).
use Rattle.tables.proofs.ArrayLaws.{array_copied}
use Rattle.tables.proofs.parts.number_array.Goals as goal

pub returns : goal.returns
returns c = rw c.copy_from_slice.ensures.after (array_copied _ c.requires)
