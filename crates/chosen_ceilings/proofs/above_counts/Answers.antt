-- `above_counts` meets its contract: what the chain finds is what the check asks (`chosen_above`).
-- Assumes nothing.
use borrow.Author.Tests.{tests}
use Rattle.std.proofs.Common.{rules}
use Rattle.std.proofs.lemmas.Iterator.{YieldsList-from_slice, YieldsList-from_zip}
use Rattle.std.proofs.lemmas.Iterator.Search.{any_from_yields_List}
use lib.Dec.{ltb}
use mathlib.Core.Path.{◌∙◌}
use Rattle.chosen_ceilings.proofs.ChosenLaws.{chosen_above}
use Rattle.chosen_ceilings.proofs.above_counts.Goals as goal

pub returns : goal.returns
returns c =
    any_from_yields_List (λ p. ltb p.1 p.0) c.any.new.self _ _ c.any.ensures.ran
    (YieldsList-from_zip (YieldsList-from_slice c.args.ceilings.now cc) (YieldsList-from_slice c.count_array-counts.result cc))
    (λ x b q k. search (rules, tests))
    ∙ chosen_above _ c.args.table.accepted _ c.requires.ceilings_len c.count_array-counts.ensures
