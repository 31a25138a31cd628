-- The first p counts are written.
use Rattle.std.proofs.Common.{◌≡◌}
use Rattle.test_kit.specs.Tables.{each, with_count}
use Rattle.test_kit.proofs.counts.Given as goal

abbrev pub invariant-loop-p : goal.invariant-loop-p
invariant-loop-p l = l.buffer ≡ each l.p (λ p b. with_count b p l.value) l.initial.buffer
