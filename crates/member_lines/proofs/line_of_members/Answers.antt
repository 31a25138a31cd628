-- A process that is a member lowers the line to its own, and another one leaves it.
use Rattle.std.proofs.Common.{◌∙◌, sym}
use Rattle.member_lines.proofs.MemberLaws.{minimizing_member, minimizing_none, minimizing_other}
use Rattle.member_lines.proofs.line_of_members.Goals as goal
use Rattle.member_lines.proofs.line_of_members.Goals.{then-is_member, else-is_member}

pub loop-k-init : goal.loop-k-init
loop-k-init c = minimizing_none

pub loop-k-preserved : goal.loop-k-preserved
loop-k-preserved c =
    elim c.if-is_member.branch [
      | then-is_member w ↦
          let member = sym c.is_member.ensures ∙ w.if-is_member.true in
          rw w.line-is (minimizing_member c.loop-k.invariant c.loop-k-test.true member (rw w.line.ensures at w.lower_to.ensures))
      | else-is_member w ↦ rw w.line-is (minimizing_other c.loop-k.invariant (sym c.is_member.ensures ∙ w.if-is_member.false))
    ]
