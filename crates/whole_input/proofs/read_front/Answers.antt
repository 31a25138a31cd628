-- `read_front` meets its contract: each read adds to the front what the input loses.
use Rattle.std.proofs.Common.{rules, length, ◌-◌, sym, subst}
use Rattle.std.specs.Io.KnownBytes.{Consumes}
use Rattle.whole_input.proofs.InputLaws.{front_put, lost_more}
use Rattle.whole_input.proofs.read_front.Goals as goal

pub loop-len-preserved : goal.loop-len-preserved
loop-len-preserved g c =
    let w = c.loop-len.invariant in
    let room = length c.loop-len.buffer - c.loop-len.len in
    let front = front_put c.loop-len.len room c.in_ok-count.count c.loop-len.buffer c.read.new.buf w.0 c.in_ok-count.ensures.bound.0 in
    (search rules, search rules, subst (Consumes _ _) (sym front) (lost_more _ _ _ _ _ w.2 c.in_ok-count.ensures.bytes.0))
