-- N and the number of sets are small, so that nothing overflows.
use Rattle.call_checks.specs.CallChecks.{most_sets}
use Rattle.keeper.proofs.sizes.lines_size.Goals as goal
use Rattle.std.proofs.Common.{arith, ◌*◌, ◌≤◌}
use Rattle.tables.proofs.ReadLaws.{processes_few}
use native.Mathlib.Nat.{mul-le-mul}

pub overflow_mul-result : goal.overflow_mul-result
overflow_mul-result c = omega (arith, processes_few _ c.args.table.accepted)

pub overflow_mul-result-2 : goal.overflow_mul-result-2
unfolding most_sets
overflow_mul-result-2 c =
    let few : 2 * c.process_count.result ≤ 64 = omega (arith, processes_few _ c.args.table.accepted) in
    omega (arith, mul-le-mul few c.requires)
