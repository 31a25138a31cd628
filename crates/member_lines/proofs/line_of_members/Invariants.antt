-- At the n processes the line is the minimum of the counts and of the members' lines below k.
use Rattle.member_lines.proofs.MemberLaws.{Minimizing}
use Rattle.member_lines.proofs.line_of_members.Given as goal

abbrev pub invariant-loop-k : goal.invariant-loop-k
invariant-loop-k l = Minimizing l.lines l.fn.counts l.set l.line l.k
