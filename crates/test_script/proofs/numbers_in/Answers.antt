-- `numbers_in` meets its contract: what stands between others than digits are digits.
use Rattle.std.proofs.Common.{rules, not}
use Rattle.std.proofs.lemmas.List.Sorted.{answers_always}
use Rattle.std.specs.Char.{is_ascii_digit}
use Rattle.test_script.proofs.ScriptLaws.{digits_alone}
use Rattle.test_script.proofs.numbers_in.Goals as goal

pub value_of-requires : goal.value_of-requires
value_of-requires c =
    let next = c.in-Some.ensures.steps in
    digits_alone _ _ _ _ next.1 (next.2 (λ byte. not (is_ascii_digit byte)) (answers_always _ _ _ (λ f a r g h. search rules))).1.0
