-- `sets` meets its contract.
use Rattle.std.proofs.Common.{rules}
use Rattle.test_script.proofs.ScriptLaws.{is_tabulated}
use Rattle.test_script.proofs.Line.sets.Goals as goal

pub returns : goal.returns
returns c = is_tabulated _ 16 _ 0 c.map.ensures.items.long (λ k l. let given = (c.map.ensures.items.at k 0 0 l).2 in search rules)
