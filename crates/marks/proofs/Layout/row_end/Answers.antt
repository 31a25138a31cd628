-- `Layout::row_end` meets its contract: the next process begins there.
use native.Mathlib.Omega.{arith}
use mathlib.Core.Path.{◌∙◌}
use Rattle.marks.proofs.LayoutLaws.{end_read, few}
use Rattle.marks.proofs.Layout.row_end.Goals as goal

pub row_end-requires : goal.row_end-requires
row_end-requires c = omega (arith, few _ c.args.self.now.table.accepted c.requires)

pub returns : goal.returns
returns c = c.row_end.ensures ∙ end_read _ c.args.self.now.table.accepted c.args.self.now.first_are c.requires
