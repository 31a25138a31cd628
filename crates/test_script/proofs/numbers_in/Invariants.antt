-- The numbers are sixteen at most.
use Rattle.std.proofs.Common.{◌≤◌}
use Rattle.test_script.proofs.numbers_in.Given as goal

abbrev pub invariant-loop-digits : goal.invariant-loop-digits
invariant-loop-digits l = l.count ≤ 16
