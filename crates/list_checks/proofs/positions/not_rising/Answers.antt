-- `positions::not_rising` meets its contract: neighbours that were compared say whether the list rises (`rising_found`).
-- Assumes nothing.
use borrow.Author.Tests.{tests}
use lib.Dec.{ltb}
use Rattle.std.proofs.Common.{rules}
use Rattle.std.proofs.lemmas.List.Sorted.{answers_always}
use Rattle.list_checks.proofs.PositionLaws.{rising_found}
use Rattle.list_checks.proofs.positions.not_rising.Goals as goal

pub returns : goal.returns
returns c = rising_found c.args.list.now c.is_sorted_by.result (c.is_sorted_by.ensures.cases ltb (answers_always _ _ _ (λ f a r g h. search (rules, tests))))
