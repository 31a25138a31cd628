-- The first k messages are written.
use Rattle.std.proofs.Common.{◌≡◌}
use Rattle.test_kit.specs.Tables.{domino_message, each}
use Rattle.test_kit.proofs.domino.Given as goal

abbrev pub invariant-loop-k : goal.invariant-loop-k
invariant-loop-k l = l.buffer ≡ each l.k (domino_message l.m l.backward) l.initial.buffer
