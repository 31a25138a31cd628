-- `Layout::mark_from` meets its contract: the row is inside.
use native.Mathlib.Omega.{arith}
use Rattle.marks.proofs.LayoutLaws.{process_inside}
use Rattle.marks.proofs.Layout.mark_from.Goals as goal

pub mark_from-requires : goal.mark_from-requires
mark_from-requires c = record {
  end_bound = omega (arith, process_inside _ _ c.requires.known, c.requires.room, c.row_end.ensures);
  onwards = rw (c.bit.ensures, c.row_end.ensures) c.requires.onwards;
}
