-- `numbers::u16_at` meets its contract: the two bytes that it reads.
use Rattle.std.proofs.Common.{rules}
use Rattle.tables.specs.Numbers.{number_at}
use Rattle.tables.proofs.numbers.u16_at.Goals as goal

pub returns : goal.returns
unfolding number_at
returns c = search rules
