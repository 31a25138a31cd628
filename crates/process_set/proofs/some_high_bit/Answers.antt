-- `some_high_bit` meets its contract: what the chain finds is what is asked of the entries (`any_answer`).
use Rattle.std.proofs.Common.{rules}
use Rattle.process_set.specs.Sets.{high_bit, some_high_bit}
use Rattle.tables.proofs.ListLaws.{any_answer}
use Rattle.process_set.proofs.some_high_bit.Goals as goal

pub returns : goal.returns
unfolding some_high_bit
returns c = any_answer (λ set. high_bit set c.args.n) _ _ (search rules)
