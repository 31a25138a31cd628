-- `last_roots` meets its contract. The invariant: roots and marks are a stage of the procedure that began at the ceilings (`Running`). The measure is the
-- sum of the roots, since a round with a marked root brings one down.
use mathlib.Core.Path.{sym, ◌∙◌}
use Rattle.marked_line.proofs.MarkRowLaws.{kept_both}
use Rattle.marked_line.proofs.StageLaws.{running_ends, running_falls, running_more}
use Rattle.tables.proofs.AcceptLaws.{facts}
use Rattle.tables.proofs.ReadLaws.{processes_few}
use Rattle.marked_line.proofs.last_roots.Goals as goal

pub loop-roots-smaller : goal.loop-roots-smaller
loop-roots-smaller c =
    running_falls c.loop-roots.invariant (processes_few _ c.args.layout.now.table.accepted) (sym c.loop-roots-test.true ∙ c.root_marked.ensures)
    c.next_round-roots.ensures

pub loop-roots-preserved : goal.loop-roots-preserved
loop-roots-preserved c =
    running_more c.loop-roots.invariant (processes_few _ c.args.layout.now.table.accepted) (sym c.loop-roots-test.true ∙ c.root_marked.ensures)
    c.next_round-roots.ensures (facts _ c.args.layout.now.table.accepted).well_formed

pub returns : goal.returns
returns c = record {
  ends_with = running_ends c.loop-roots.invariant (sym c.loop-roots-test.false ∙ c.root_marked.ensures);
  kept = kept_both c.start-roots.ensures.kept c.loop-roots.invariant.kept;
}
