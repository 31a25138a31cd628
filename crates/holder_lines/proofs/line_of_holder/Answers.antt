-- `line_of_holder` meets its contract: where a rollback does not propagate, the ceiling is the line.
use mathlib.Core.Path.{◌≡◌, sym, ap, ◌∙◌}
use Prim.Native.Nat.{◌^◌}
use Rattle.consistency.specs.Ceilings.{ceiling_of}
use Rattle.consistency.specs.Lowering.{line_under}
use Rattle.holder_lines.proofs.PropagationLaws.{holder_ceiling}
use Rattle.lines.proofs.LineReads.{set_read}
use Rattle.process_set.specs.Sets.{member}
use Rattle.tables.specs.Arrays.{array_of}
use Rattle.tables.specs.Format.{decode}
use Rattle.holder_lines.proofs.line_of_holder.Goals as goal
use Rattle.holder_lines.proofs.line_of_holder.Goals.{After-ceiling_of_set-ceiling}

-- the ceiling is that of a set of one
ceiling_is : (c : After-ceiling_of_set-ceiling)
    → c.ceiling_of_set-ceiling.result ≡ array_of (ceiling_of (decode c.args.table.bytes.now) (member (2 ^ c.args.k)))
ceiling_is c = rw c.bit.ensures at c.ceiling_of_set-ceiling.ensures

pub returns-then-not-propagates : goal.returns-then-not-propagates
returns-then-not-propagates c =
    ceiling_is (goal.at.returns-then-not-propagates c).After-ceiling_of_set-ceiling
    ∙ ap array_of (holder_ceiling _ c.args.table.accepted _ (sym c.requires.propagates_value ∙ c.if-not-propagates.true))

pub returns : goal.returns
returns c =
    c.settled_line.ensures ∙ ap (line_under _) (ceiling_is (goal.at.returns c).After-ceiling_of_set-ceiling)
    ∙ set_read _ c.args.table.accepted _
