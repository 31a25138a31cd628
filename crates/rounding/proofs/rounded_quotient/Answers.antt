-- `rounded_quotient` meets its contract, at each return.
use Rattle.rounding.proofs.RoundingLaws.{above_rounded, below_rounded}
use native.Mathlib.Nat.{div-le_self, mod-le}
use native.Mathlib.Omega.{arith}
use Rattle.rounding.proofs.rounded_quotient.Goals as goal

pub overflow_add-above : goal.overflow_add-above
overflow_add-above c =
    omega (arith, c.requires.dividend_bound, div-le_self c.args.dividend c.args.divisor)

pub overflow_mul-twice : goal.overflow_mul-twice
overflow_mul-twice c =
    omega (arith, c.requires.dividend_bound, mod-le c.args.dividend c.args.divisor)

pub returns-then-twice-divisor : goal.returns-then-twice-divisor
returns-then-twice-divisor c =
    below_rounded _ _ (omega (arith, c.if-twice-divisor.true)) (λ e. absurd (omega (arith, e, c.if-twice-divisor.true)))

pub returns-then-divisor-twice : goal.returns-then-divisor-twice
returns-then-divisor-twice c =
    above_rounded _ _ c.requires.divisor_nonzero (omega (arith, c.if-divisor-twice.true)) (λ e. absurd (omega (arith, e, c.if-divisor-twice.true)))

pub returns-then-below-eq0 : goal.returns-then-below-eq0
returns-then-below-eq0 c =
    below_rounded _ _ c.if-divisor-twice.false (λ e. c.if-below-eq0.true)

pub returns : goal.returns
returns c =
    above_rounded _ _ c.requires.divisor_nonzero c.if-twice-divisor.false (λ e. omega (arith, c.if-below-eq0.false))
