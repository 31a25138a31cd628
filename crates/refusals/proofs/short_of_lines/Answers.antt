-- N is small, so that N × N does not overflow.
use Rattle.refusals.proofs.short_of_lines.Goals as goal
use Rattle.std.proofs.Common.{arith, ◌≤◌}
use Rattle.tables.proofs.ReadLaws.{processes_few}
use native.Mathlib.Nat.{mul-le-mul}

pub overflow_mul-result : goal.overflow_mul-result
overflow_mul-result c =
    let few : c.process_count-n.result ≤ 32 = omega (arith, processes_few _ c.args.table.accepted) in
    omega (arith, mul-le-mul few few)
