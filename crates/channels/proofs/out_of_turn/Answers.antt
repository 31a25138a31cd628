-- `out_of_turn` meets its contract: the tests of the pair, one after another.
use Rattle.std.proofs.Common.{◌≡◌, ◌∙◌, ◌≤◌, ap₂, arith, sym}
use lib.Dec.{ltb}
use Rattle.channels.proofs.ChannelLaws.{both_received, later-waits, overtakes, sent_earlier}
use Rattle.tables.specs.Format.{checkpoint_at, message_at}
use Rattle.channels.proofs.out_of_turn.Goals as goal
use Rattle.channels.proofs.out_of_turn.Goals.{Else-received-eq0, Else-sent-u16_at}

-- the send numbers rise
rise : (c : Else-sent-u16_at)
    → (message_at c.args.sends.now c.args.receipts.now c.args.q).sent ≤ (message_at c.args.sends.now c.args.receipts.now c.args.k).sent
unfolding checkpoint_at message_at
rise c = omega (arith, c.if-sent-u16_at.false, c.u16_at-sent.ensures, c.u16_at.ensures)

-- the later message is received
some : (c : Else-received-eq0) → (message_at c.args.sends.now c.args.receipts.now c.args.k).received ≡ 0 → ⊥
unfolding checkpoint_at message_at
some c z = c.if-received-eq0.false (c.u16_at-received.ensures ∙ z)

pub returns-then-sent-u16_at : goal.returns-then-sent-u16_at
unfolding checkpoint_at message_at
returns-then-sent-u16_at c = sent_earlier _ _ (omega (arith, c.if-sent-u16_at.true, c.u16_at-sent.ensures, c.u16_at.ensures))

pub returns-then-received-eq0 : goal.returns-then-received-eq0
unfolding checkpoint_at message_at
returns-then-received-eq0 c =
    later-waits _ _ (rise (goal.at.returns-then-received-eq0 c).Else-sent-u16_at) (sym c.u16_at-received.ensures ∙ c.if-received-eq0.true)

pub returns-then-earlier-eq0 : goal.returns-then-earlier-eq0
unfolding checkpoint_at message_at
returns-then-earlier-eq0 c =
    let at = goal.at.returns-then-earlier-eq0 c in
    overtakes _ _ (rise at.Else-sent-u16_at) (some at.Else-received-eq0) (sym c.u16_at-earlier.ensures ∙ c.if-earlier-eq0.true)

pub returns : goal.returns
unfolding checkpoint_at message_at
returns c =
    let at = goal.at.returns c in
    ap₂ ltb c.u16_at-received.ensures c.u16_at-earlier.ensures
    ∙ both_received _ _ (rise at.Else-sent-u16_at) (some at.Else-received-eq0) (λ z. c.if-earlier-eq0.false (c.u16_at-earlier.ensures ∙ z))
