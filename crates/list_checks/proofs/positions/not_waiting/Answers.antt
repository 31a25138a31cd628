-- `positions::not_waiting` meets its contract: what the chain finds is what the check asks (`waiting_found`).
-- Assumes nothing.
use borrow.Author.Tests.{tests}
use lib.Dec.{leb}
use mathlib.Core.Bool.{◌||◌, not}
use mathlib.Core.Path.{◌∙◌}
use Rattle.std.proofs.Common.{rules}
use Rattle.std.proofs.lemmas.Iterator.{YieldsList-from_slice}
use Rattle.std.proofs.lemmas.Iterator.Search.{any_from_yields_List}
use Rattle.list_checks.proofs.PositionLaws.{waiting_found}
use Rattle.list_checks.specs.Entries.{entry_waits}
use Rattle.list_checks.proofs.positions.not_waiting.Goals as goal

pub returns : goal.returns
returns c =
    any_from_yields_List (λ k. leb c.args.m k || not (entry_waits c.args.receipts.now c.args.process k)) c.any.new.self _ _ c.any.ensures.ran
    (YieldsList-from_slice c.args.list.now cc) (λ x b q k. search (rules, tests))
    ∙ waiting_found c.args.receipts.now c.args.m c.args.process c.args.list.now
