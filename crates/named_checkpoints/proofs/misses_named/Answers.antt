-- `misses_named` meets its contract: each process has a place in the line, and what the chain finds is what is asked.
-- Assumes nothing.
use borrow.Author.Tests.{tests}
use lib.Dec.{eqb}
use lib.ListN.{get_or}
use mathlib.Core.Bool.{not}
use mathlib.Core.Path.{◌∙◌}
use Prim.Native.Nat.{◌<◌}
use native.Mathlib.Omega.{arith}
use Rattle.std.proofs.Common.{rules}
use Rattle.std.proofs.lemmas.Iterator.Adapters.{serves_from_places}
use Rattle.std.proofs.lemmas.Iterator.Search.{any_from_yields_List}
use Rattle.named_checkpoints.proofs.NamedLaws.{both, known_at, missed_found}
use Rattle.tables.proofs.ReadLaws.{processes_few}
use Rattle.named_checkpoints.proofs.misses_named.Goals as goal

pub any-requires-clause-callable : goal.any-requires-clause-callable
any-requires-clause-callable c =
    serves_from_places (both c.args.names.processes.now c.args.names.states.now (cc) (cc))
    (λ x q r. search rules)
    (λ x k l e. let small : x.0.now < 32 = omega (arith, known_at c.args.names.parallel k l e, processes_few _ c.args.names.table.accepted) in search rules)

pub returns : goal.returns
returns c =
    any_from_yields_List (λ p. not (eqb (get_or c.args.line p.0 0) p.1)) c.any.new.self _ _ c.any.ensures.ran
    (both c.args.names.processes.now c.args.names.states.now (cc) (cc))
    (λ x b q k. search (rules, tests))
    ∙ missed_found _ _ c.args.line c.args.names.parallel
