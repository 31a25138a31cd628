-- `latest_unmarked` meets its contract: of the states above 0, up to the root, the last that is not marked was found, or all are marked.
use lib.ListN.{get_or}
use mathlib.Core.Bool.{true, false}
use mathlib.Core.Path.{◌≡◌, refl}
use Prim.Native.Nat.{ℕ, ◌≤◌, ◌<◌}
use Rattle.std.proofs.Common.{rules, tests}
use Rattle.std.proofs.iter.runs.Sources.{ranges}
use Rattle.std.specs.Option.{IfSome, MatchOption}
use Rattle.marked_line.proofs.RootLaws.{latest_found}
use Rattle.marks.specs.Bits.{marked_in}
use Rattle.tables.specs.Format.{decode}
use Rattle.marked_line.proofs.latest_unmarked.Goals as goal
use Rattle.marked_line.proofs.latest_unmarked.Goals.{After-find}

found : (c : After-find)
    → IfSome c.find.result (λ y. (y ≤ c.args.root) × (marked_in (decode c.args.layout.now.table.bytes.now) c.args.marks.now c.args.p y ≡ false))
found c = search (rules, tests, ranges)

-- the search takes a number of a range where a list is read at it, and so one is
passed : (c : After-find) (y : ℕ) → get_or c.args.marks.now y 0 ≡ get_or c.args.marks.now y 0 → 0 < y → y ≤ c.args.root
    → MatchOption c.find.result (marked_in (decode c.args.layout.now.table.bytes.now) c.args.marks.now c.args.p y ≡ true)
    (λ y'. y' < y → marked_in (decode c.args.layout.now.table.bytes.now) c.args.marks.now c.args.p y ≡ true)
passed c y read l l' = search (rules, tests, ranges)

pub returns : goal.returns
returns c =
    let at = goal.at.returns c in
    rw c.unwrap_or.ensures (latest_found _ _ _ c.find.result c.requires.zero_unmarked (found at.After-find) (λ y. passed at.After-find y refl))
