-- `unknown_process` meets its contract: what the chain finds is what the check asks (`unknown_found`).
-- Assumes nothing.
use borrow.Author.Tests.{tests}
use lib.Dec.{leb}
use mathlib.Core.Path.{◌∙◌}
use Rattle.std.proofs.Common.{rules}
use Rattle.std.proofs.lemmas.Iterator.{YieldsList-from_slice}
use Rattle.std.proofs.lemmas.Iterator.Search.{any_from_yields_List}
use Rattle.named_checkpoints.proofs.NamedLaws.{unknown_found}
use Rattle.named_checkpoints.proofs.unknown_process.Goals as goal

pub returns : goal.returns
returns c =
    any_from_yields_List (λ p. leb c.process_count-n.result p) c.any.new.self _ _ c.any.ensures.ran
    (YieldsList-from_slice c.args.processes.now cc) (λ x b q k. search (rules, tests))
    ∙ unknown_found _ _ c.process_count-n.ensures
