-- `every_process` meets its contract.
use mathlib.Core.Path.{◌≡◌, sym, ◌∙◌}
use native.Mathlib.Omega.{arith}
use Prim.Native.Nat.{ℕ, ◌<◌}
use lib.ListN.{get_or}
use lib.Seq.{ext_get_or}
use borrow.Author.Rules.{rules}
use Rattle.tables.proofs.ListLaws.{get_or_tabulate, length-tabulate}
use Rattle.tables.specs.Lists.{tabulate}
use Rattle.chase.proofs.every_process.Goals as goal

pub returns : goal.returns
returns c =
    let size = c.from_fn.ensures.items.long in
    let each : (i : ℕ) → i < 32 → get_or c.from_fn.result i 0 ≡ i = λ i l. let h = c.from_fn.ensures.items.at i 0 l in search rules in
    ext_get_or 0 c.from_fn.result (tabulate 32 (λ p. p)) (size ∙ sym (length-tabulate 32 (λ p. p)))
    (λ i l. each i (omega arith) ∙ sym (get_or_tabulate 32 (λ p. p) i 0 (omega arith)))
