-- `numbers::u16_or_zero` meets its contract, by what is left from the place on: nothing, one byte, or both (`number_at-rest`).
use Rattle.std.proofs.Common.{arith, ◌∙◌, sym}
use Rattle.tables.proofs.NumberLaws.{number_at_beyond, number_at-rest, u16_at_last}
use Rattle.tables.specs.Numbers.{number_at}
use Rattle.tables.proofs.numbers.u16_or_zero.Goals as goal

pub returns-in-None : goal.returns-in-None
returns-in-None c = sym (number_at_beyond 2 _ _ (grind (arith, c.in-None.ensures.lookup)))

pub returns-in-Some-empty : goal.returns-in-Some-empty
returns-in-Some-empty c = sym (number_at_beyond 2 _ _ (omega (arith, c.in-Some-empty.ensures.lookup, c.in-Some-empty.len_below)))

pub returns-in-Some-len1 : goal.returns-in-Some-len1
returns-in-Some-len1 c =
    let last = u16_at_last c.in-Some-len1.field-0.now 0 (omega (arith, c.in-Some-len1.len_below)) in
    c.u16_of.ensures ∙ sym last ∙ number_at-rest 2 _ _ c.in-Some-len1.ensures.lookup.0.2

pub returns-in-Some-len2-up : goal.returns-in-Some-len2-up
unfolding number_at
returns-in-Some-len2-up c = omega (arith, c.u16_of-in-Some-len2-up.ensures, number_at-rest 2 c.args.bytes.now c.args.at c.in-Some-len2-up.ensures.lookup.0.2)
