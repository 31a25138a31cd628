-- Of the code: a call's outcome, the length of its answer or a refusal, as the number that the call returns
-- (`refusal_in`) and what it leaves in the length's place. Assumes nothing.
use Rattle.std.specs.Prelude.{Result, Ok, Err, List, ℕ}
use Rattle.calls.specs.Answers.{Answer, Yields}
use Rattle.tables.specs.Refusals.{refusal_in}
use Rattle.tables.specs.declared.refusal.Refusal.{Refusal}

-- The length's place afterwards: the length of the answer; or unchanged.
abbrev pub length_in : Result ℕ Refusal → ℕ → ℕ
length_in (Ok length) before = length
length_in (Err refusal) before = before

-- The outcome is what the call yields, whatever was in the length's place.
abbrev pub Outcome : Answer → Result ℕ Refusal → List ℕ → List ℕ → Type 0
Outcome a outcome buffer buffer' =
    (before : ℕ) → Yields a (refusal_in outcome) buffer buffer' before (length_in outcome before)
