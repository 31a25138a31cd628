-- One writer is made over the answer and goes on from part to part; the answer is what it leaves.
use Rattle.std.proofs.Common.{rules}
use Rattle.sheet_writer.proofs.PartLaws.{can_sizes, checkpoints_next, positions_next, processes_next, sheet_left}
use Rattle.sheet_writer.proofs.put_sheet.Goals as goal

pub put_next-requires : goal.put_next-requires
put_next-requires c = can_sizes _ _ _ c.args.answer c.requires

pub put_next-requires-2 : goal.put_next-requires-2
put_next-requires-2 c = processes_next _ _ _ _ c.requires _ c.put_next.ensures.written

pub put_next-requires-3 : goal.put_next-requires-3
put_next-requires-3 c = checkpoints_next _ _ _ _ c.requires _ c.put_next.ensures.written _ c.put_next-2.ensures.written

pub put_next-requires-4 : goal.put_next-requires-4
put_next-requires-4 c =
    positions_next _ _ _ _ c.requires _ c.put_next.ensures.written _ c.put_next-2.ensures.written _ c.put_next-3.ensures.written

pub returns : goal.returns
returns c =
    let left =
    sheet_left _ _ _ _ c.requires _ c.put_next.ensures.written _ c.put_next-2.ensures.written _ c.put_next-3.ensures.written _ c.put_next-4.ensures.written
    in search (rules, left)
