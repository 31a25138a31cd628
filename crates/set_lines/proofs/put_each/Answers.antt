-- The minimum of the members' lines is put behind the lines before it.
use Rattle.set_lines.proofs.EachLaws.{puts_all, puts_more, puts_none}
use Rattle.set_lines.proofs.put_each.Goals as goal

pub loop-set-init : goal.loop-set-init
loop-set-init c =
    puts_none
    (record { given = c.lines-lines.ensures.lines_of; n_is = c.lines-lines.ensures.n; counts_are = c.count_array-counts.ensures })
    c.requires.sets_in_bounds

pub loop-set-preserved : goal.loop-set-preserved
loop-set-preserved c = puts_more c.loop-set.invariant c.loop-set-test.true c.line_of_members-line.ensures c.put_numbers.ensures

pub returns : goal.returns
returns c = puts_all c.loop-set.invariant c.loop-set-test.false
