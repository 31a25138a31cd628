-- The positions of the kept ones among the messages so far are put, and there is room for all.
use Rattle.sheet_entries.proofs.SearchLaws.{keeps_at}
use Rattle.sheet_writer.proofs.PutLaws.{PuttingNumbers}
use Rattle.tables.specs.Lists.{select}
use Rattle.sheet_writer.proofs.writing.put_positions.Given as goal

abbrev pub invariant-loop-position : goal.invariant-loop-position
invariant-loop-position l =
    PuttingNumbers (select (keeps_at l.lines l.messages)) l.messages.count l.fn.buffer l.at l.buffer l.next l.position
