-- `lookups::count` meets its contract, below N and beyond.
use Rattle.std.proofs.Common.{sym, ◌∙◌}
use Rattle.tables.proofs.FormatLaws.{count_none, count_some}
use Rattle.tables.proofs.lookups.count.Goals as goal

-- p is N or above
pub returns-then-n-p : goal.returns-then-n-p
returns-then-n-p c = sym (count_none _ c.u16_or_zero-n.ensures c.if-n-p.true)

-- it is below
pub returns : goal.returns
returns c = c.u16_or_zero.ensures ∙ sym (count_some _ c.u16_or_zero-n.ensures c.if-n-p.false)
