-- `process_set::bit` meets its contract: below 32 the shift of one loses nothing in 64 bits, and its value fits 32.
use Rattle.std.proofs.Common.{ℕ, ◌*◌, ◌%◌, ◌^◌, ◌<◌, arith, rules}
use lib.Pow.{pow-lt}
use Rattle.process_set.proofs.SetLaws.{one_shifted}
use Rattle.process_set.proofs.bit.Goals as goal

fits : (p : ℕ) → p < 32 → (1 * 2 ^ p) % 2 ^ 64 < 2 ^ 32
fits p inside = rw (one_shifted 64 p (omega arith)) (pow-lt inside)

pub overflow_cast-result : goal.overflow_cast-result
overflow_cast-result c = search (rules, fits)

pub returns : goal.returns
returns c = one_shifted 64 _ (omega arith)
