-- The first k messages are written.
use Rattle.std.proofs.Common.{◌≡◌}
use Rattle.test_kit.specs.Tables.{each, with_message}
use Rattle.test_kit.proofs.messages.Given as goal

abbrev pub invariant-loop-k : goal.invariant-loop-k
invariant-loop-k l = l.buffer ≡ each l.k (λ k b. with_message b k l.j l.y l.i l.r) l.initial.buffer
