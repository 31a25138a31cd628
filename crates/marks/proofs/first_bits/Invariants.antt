-- `first_bits` meets its contract. The invariant: the entries up to that of p are first bits, and those behind it are 0.
use lib.ListN.{replicate}
use Prim.Native.Nat.{◌+◌}
use Rattle.marks.specs.Bits.{first_bit}
use Rattle.tables.specs.Arrays.{Filled}
use Rattle.tables.specs.Format.{decode}
use Rattle.marks.proofs.first_bits.Given as goal

abbrev pub invariant-loop-p : goal.invariant-loop-p
invariant-loop-p l = Filled (first_bit (decode l.table.bytes.now).counts) (l.p + 1) (replicate 33 0) l.first
