-- Each call of `fault_at` answers one check of the list, in its order.
use Rattle.run_table.proofs.ScanLaws.{above, below, not_above, not_below_lem}
use Rattle.run_table.proofs.entries.Entries.fault_at.Goals as goal
use Rattle.run_table.proofs.entries.Entries.fault_at.Goals.{Else-unknown_at-2, then-unknown_at-via-else-unknown_at+then-unknown_at-2}
use Rattle.run_table.proofs.entries.Entries.fault_at.Goals.{then-unknown_at-via-then-unknown_at}
use Rattle.run_table.specs.EntryChecks.{first_place, unknown_at}
use Rattle.std.proofs.Common.{false, sym, ◌∙◌, ◌≡◌}

pub returns-then-unknown_at : goal.returns-then-unknown_at
unfolding first_place
returns-then-unknown_at c = elim c.then-unknown_at.branch [
  | then-unknown_at-via-then-unknown_at w ↦ rw (← c.unknown_at.ensures, w.if-unknown_at.true)
  | then-unknown_at-via-else-unknown_at+then-unknown_at-2 w ↦
      rw (← c.unknown_at.ensures, w.if-unknown_at.false, ← w.unknown_at-else-unknown_at.ensures, w.if-unknown_at-2.true)
]

-- both processes are known
known : (c : Else-unknown_at-2)
    → (unknown_at c.args.self.n c.args.self.sends.now c.args.k ≡ false) × (unknown_at c.args.self.n c.args.self.receipts.now c.args.k ≡ false)
known c = (sym c.unknown_at.ensures ∙ c.if-unknown_at.false, sym c.unknown_at-else-unknown_at.ensures ∙ c.if-unknown_at-2.false)

pub returns-then-to_itself_at : goal.returns-then-to_itself_at
unfolding first_place
returns-then-to_itself_at c =
    let (sender, receiver) = known (goal.at.returns-then-to_itself_at c).Else-unknown_at-2 in
    rw (sender, receiver, ← c.to_itself_at.ensures, c.if-to_itself_at.true)

pub returns-then-count_for-sent : goal.returns-then-count_for-sent
unfolding first_place
returns-then-count_for-sent c =
    let (sender, receiver) = known (goal.at.returns-then-count_for-sent c).Else-unknown_at-2 in
    let high = not_below_lem _ _ _ c.count_for.ensures c.u16_at-sent.ensures c.if-count_for-sent.true in
    rw (sender, receiver, ← c.to_itself_at.ensures, c.if-to_itself_at.false, high)

pub returns-then-count_for-received : goal.returns-then-count_for-received
unfolding first_place
returns-then-count_for-received c =
    let (sender, receiver) = known (goal.at.returns-then-count_for-received c).Else-unknown_at-2 in
    let sent = below _ _ _ c.count_for.ensures c.u16_at-sent.ensures c.if-count_for-sent.false in
    let high = above _ _ _ c.count_for-2.ensures c.u16_at-received.ensures c.if-count_for-received.true in
    rw (sender, receiver, ← c.to_itself_at.ensures, c.if-to_itself_at.false, sent, high)

pub returns : goal.returns
unfolding first_place
returns c =
    let (sender, receiver) = known (goal.at.returns c).Else-unknown_at-2 in
    let sent = below _ _ _ c.count_for.ensures c.u16_at-sent.ensures c.if-count_for-sent.false in
    let received = not_above _ _ _ c.count_for-2.ensures c.u16_at-received.ensures c.if-count_for-received.false in
    rw (sender, receiver, ← c.to_itself_at.ensures, c.if-to_itself_at.false, sent, received)
