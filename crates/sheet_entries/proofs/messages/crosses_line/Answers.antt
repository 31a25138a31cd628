-- Whether the message crosses one of the lines.
use Rattle.std.proofs.Common.{ℕ, arith, refl, rules, ◌∙◌}
use borrow.Author.Tests.{tests}
use mathlib.Core.Bool.{Bool, ◌&&◌}
use Rattle.std.proofs.Math.Bool.{and_comm}
use lib.Dec.{ltb}
use Rattle.std.proofs.lemmas.Iterator.{YieldsList-from_range}
use Rattle.std.proofs.lemmas.Iterator.Search.{any_from_yields_List}
use Rattle.holder_lines.specs.Held.{line_held}
use Rattle.keep_sheet.specs.Sheet.{crosses}
use Rattle.sheet_entries.proofs.ChainLaws.{any_of_range}
use Rattle.tables.proofs.ListLaws.{any_below_ext}
use Rattle.sheet_entries.specs.Kept.{crosses_line}
use Rattle.sheet_entries.proofs.messages.crosses_line.Goals as goal

pub returns : goal.returns
unfolding crosses_line crosses
returns c =
    let n = c.args.lines.n in
    let passed : ℕ → Bool = λ k. ltb (line_held c.args.lines k c.args.receiver) c.args.received in
    let not_sent : ℕ → Bool = λ k. ltb c.args.sent (line_held c.args.lines k c.args.sender) in
    any_from_yields_List (λ k. passed k && not_sent k) _ _ c.any.result c.any.ensures.ran (YieldsList-from_range 0 n n refl (omega arith))
    (λ x b q k. search (rules, tests)) ∙ any_of_range _ n ∙ any_below_ext _ _ n (λ k _. and_comm (passed k) (not_sent k))
