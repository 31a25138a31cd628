-- The invariant of `last_sent`: it stands at or below k, whose messages are there. The measure is the place.
use Prim.Native.Nat.{◌≤◌}
use Rattle.chase.proofs.last_sent.Given as goal

abbrev pub invariant-eights : goal.invariant-eights
invariant-eights l = l.at ≤ l.k

abbrev pub decreases-eights : goal.decreases-eights
decreases-eights l = l.at
