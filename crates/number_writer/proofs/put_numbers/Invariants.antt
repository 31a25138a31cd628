-- The loop of `put_numbers`: the first k numbers stand in place, the rest is as it was (`Written`).
use Rattle.std.proofs.Common.{get_or, length}
use Rattle.number_writer.proofs.WriteLaws.{Written}
use Rattle.tables.specs.Numbers.{u16_bytes}
use Rattle.number_writer.proofs.put_numbers.Given as goal

abbrev pub invariant-loop-k : goal.invariant-loop-k
invariant-loop-k l = Written 2 (λ i. u16_bytes (get_or l.numbers i 0)) (length l.numbers) l.at l.fn.buffer l.buffer l.k
