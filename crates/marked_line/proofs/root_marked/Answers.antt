-- `root_marked` meets its contract: the root of some process was asked for and is marked, or those of all were.
use mathlib.Core.Bool.{true, false}
use mathlib.Core.Path.{◌≡◌}
use Prim.Native.Nat.{ℕ, ◌<◌}
use Rattle.std.proofs.Common.{rules, tests}
use Rattle.std.proofs.iter.runs.Sources.{ranges}
use Rattle.std.proofs.lemmas.Iterator.{serves_from_Range}
use Rattle.marked_line.proofs.RootLaws.{asked_all, over_all, over_known, root-there, root_marked, root_within}
use Rattle.tables.proofs.ReadLaws.{processes_few}
use Rattle.tables.specs.Format.{decode}
use Rattle.marked_line.proofs.root_marked.Goals as goal
use Rattle.marked_line.proofs.root_marked.Goals.{After-any}

pub any-requires-clause-callable : goal.any-requires-clause-callable
any-requires-clause-callable c =
    serves_from_Range (λ p q k. search (rules, tests))
    (λ p l below.
    let over = over_all (processes_few _ c.args.layout.now.table.accepted) c.requires c.process_count-n.ensures in
    let known = over_known over below in
    let bound = root-there over below in
    let there = root_within over below in
    search rules)

some : (c : After-any) → c.any.result ≡ true → (p : ℕ) × (p < c.process_count-n.result)
    × (root_marked (decode c.args.layout.now.table.bytes.now) c.args.roots.now c.args.marks.now p ≡ true)
some c e = search (rules, tests, ranges)

none : (c : After-any) → c.any.result ≡ false → (p : ℕ) → p < c.process_count-n.result
    → root_marked (decode c.args.layout.now.table.bytes.now) c.args.roots.now c.args.marks.now p ≡ false
none c e p l = search (rules, tests, ranges)

pub returns : goal.returns
returns c = asked_all (decode c.args.layout.now.table.bytes.now) c.args.roots.now c.args.marks.now c.any.result c.process_count-n.ensures (some c) (none c)
