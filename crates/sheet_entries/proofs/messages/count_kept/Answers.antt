-- The messages that are kept are counted.
use Rattle.std.proofs.Common.{ap, arith, rules, ◌∙◌}
use borrow.Author.Tests.{tests}
use lib.ListN.{length}
use Rattle.std.proofs.lemmas.Iterator.{YieldsList-from_range}
use Rattle.std.proofs.lemmas.Iterator.Consumers.{YieldsList-from_filter, count_from_yields_List}
use Rattle.sheet_entries.proofs.ChainLaws.{filter_of_range}
use Rattle.sheet_entries.proofs.SearchLaws.{keeps_at}
use Rattle.sheet_entries.specs.Kept.{positions_of}
use Rattle.sheet_entries.proofs.messages.count_kept.Goals as goal

pub returns : goal.returns
unfolding positions_of
returns c =
    count_from_yields_List c.filter.result c.count.result c.count.ensures.ran
    (YieldsList-from_filter _ (keeps_at c.args.lines c.args.messages)
    (YieldsList-from_range 0 c.args.messages.count c.args.messages.count c.filter.ensures.source (omega arith))
    c.filter.ensures.closure (λ x b q k. search (rules, tests)))
    ∙ ap length (filter_of_range _ c.args.messages.count)
