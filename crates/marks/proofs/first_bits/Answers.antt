-- `first_bits` meets its contract: the entries up to that of p are first bits.
use native.Mathlib.Omega.{arith}
use Rattle.marks.proofs.LayoutLaws.{first_small, firsts_here, firsts_more, firsts_none}
use Rattle.tables.proofs.ArrayLaws.{filled_list}
use Rattle.marks.proofs.first_bits.Goals as goal

pub loop-p-init : goal.loop-p-init
loop-p-init c = firsts_none _

pub overflow_add-first : goal.overflow_add-first
overflow_add-first c =
    omega (arith, firsts_here _ c.loop-p.invariant c.loop-p-test.true, first_small _ c.args.table.accepted c.loop-p.p)

pub overflow_add-first-in-loop-p : goal.overflow_add-first-in-loop-p
overflow_add-first-in-loop-p c =
    omega (arith, firsts_here _ c.loop-p.invariant c.loop-p-test.true, first_small _ c.args.table.accepted c.loop-p.p)

pub loop-p-preserved : goal.loop-p-preserved
loop-p-preserved c =
    firsts_more _ c.loop-p.invariant c.loop-p-test.true c.args.table.accepted c.count_array-counts.ensures c.from.ensures

pub returns : goal.returns
returns c = filled_list c.loop-p.invariant (λ i m inside. absurd (omega arith))
