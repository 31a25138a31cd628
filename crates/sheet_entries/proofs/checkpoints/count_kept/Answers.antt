-- The kept checkpoints of each process are summed up, which are few.
use Rattle.std.proofs.Common.{arith, rules, ◌∙◌}
use Rattle.std.proofs.lemmas.Iterator.{YieldsList-from_map, YieldsList-from_range}
use Rattle.std.proofs.lemmas.Iterator.Consumers.{fits_from_yields_list, sum_from_yields_List}
use Rattle.holder_lines.specs.Held.{line_held}
use Rattle.sheet_entries.proofs.SearchLaws.{checkpoints_counted, checkpoints_few, kept_number}
use Rattle.tables.specs.Format.{count_at}
use Rattle.sheet_entries.proofs.checkpoints.count_kept.Goals as goal

pub sum-requires-clause-fits : goal.sum-requires-clause-fits
unfolding count_at
sum-requires-clause-fits c =
    let n = c.args.lines.n in
    fits_from_yields_list c.map.result _
    (YieldsList-from_map _ (kept_number n (line_held c.args.lines) c.args.counts.now) (YieldsList-from_range 0 n n c.map.ensures.source (omega arith))
    c.map.ensures.closure (λ x r q k. search rules))
    (omega (arith, checkpoints_few n (line_held c.args.lines) c.args.counts.now c.requires.few))

pub returns : goal.returns
unfolding count_at
returns c =
    let n = c.args.lines.n in
    sum_from_yields_List c.map.result c.sum.result c.sum.ensures.ran
    (YieldsList-from_map _ (kept_number n (line_held c.args.lines) c.args.counts.now) (YieldsList-from_range 0 n n c.map.ensures.source (omega arith))
    c.map.ensures.closure (λ x r q k. search rules))
    ∙ checkpoints_counted n (line_held c.args.lines) c.args.counts.now
