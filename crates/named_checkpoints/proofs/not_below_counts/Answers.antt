-- `not_below_counts` meets its contract: each process has a place in the array, and what the chain finds is what the check asks.
-- Assumes nothing.
use borrow.Author.Tests.{tests}
use lib.Dec.{leb}
use lib.ListN.{get_or}
use mathlib.Core.Path.{◌∙◌}
use Prim.Native.Nat.{◌<◌}
use native.Mathlib.Omega.{arith}
use Rattle.std.proofs.Common.{rules}
use Rattle.std.proofs.lemmas.Iterator.Adapters.{serves_from_places}
use Rattle.std.proofs.lemmas.Iterator.Search.{any_from_yields_List}
use Rattle.named_checkpoints.proofs.NamedLaws.{both, known_at, not_below_found}
use Rattle.tables.proofs.ReadLaws.{processes_few}
use Rattle.named_checkpoints.proofs.not_below_counts.Goals as goal

pub any-requires-clause-callable : goal.any-requires-clause-callable
any-requires-clause-callable c =
    serves_from_places (both c.args.names.processes.now c.args.names.states.now (cc) (cc))
    (λ x q r. search rules)
    (λ x k l e. let small : x.0.now < 32 = omega (arith, known_at c.args.names.parallel k l e, processes_few _ c.args.names.table.accepted) in search rules)

pub returns : goal.returns
returns c =
    any_from_yields_List (λ p. leb (get_or c.count_array-counts.result p.0 0) p.1) c.any.new.self _ _ c.any.ensures.ran
    (both c.args.names.processes.now c.args.names.states.now (cc) (cc))
    (λ x b q k. search (rules, tests))
    ∙ not_below_found _ c.args.names.table.accepted _ _ c.args.names.parallel c.count_array-counts.ensures
