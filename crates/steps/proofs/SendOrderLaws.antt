-- Laws of tables in which the messages of each sender stand in the order sent.
--     nothing_sent        a table without messages is one
--     step_in_order       steps keep well formed tables so
--     no_orphan_before    before a message that was sent before a line, no message of its sender is an orphan of that line
-- Assumes nothing.
use mathlib.Core.List.{List, []}
use mathlib.Core.Path.{◌≡◌, ap}
use Prim.Native.Nat.{ℕ, ◌<◌}
use native.Mathlib.Nat.{not-suc-le-zero}
use native.Mathlib.Omega.{arith}
use Rattle.consistency.specs.Ceilings.{recovery_line}
use Rattle.consistency.specs.Lines.{Line, Orphan}
use Rattle.steps.proofs.StepLaws.{Receives, put_back_sender, put_back_sent, received_at_sender, received_at_sent, receives_message, receives_messages}
use Rattle.steps.proofs.StepLaws.{rollback_pairs, send_pairs, step_each}
use Rattle.steps.specs.SendOrder.{InSendOrder, SentInOrder}
use Rattle.steps.specs.Steps.{Step, after_rollback, after_send, step}
use Rattle.tables.specs.Checks.{WellFormed}
use Rattle.tables.specs.Table.{Table, count_of, message_count, message_of, table_of}

pub nothing_sent : (counts : List ℕ) → SentInOrder (table_of counts [])
unfolding message_count
nothing_sent counts q k before l = absurd (not-suc-le-zero l)

-- ---- the steps
module _ (t : Table) (o : SentInOrder t) where
  -- the new message has the last checkpoint of its sender, and no message has a later one
  send_in_order : WellFormed t → (j i : ℕ) → SentInOrder (after_send t j i)
  send_in_order w j i =
      send_pairs t j i InSendOrder o
      (λ q l same.
      let here : count_of t (message_of t q).sender ≡ count_of t j = ap (count_of t) same in
      omega (arith, (w.good_messages q l).sent_below))

  -- receipts change neither senders nor send numbers
  receives_in_order : (i : ℕ) (list : List ℕ) (t' : Table) → Receives t i list t' → SentInOrder t'
  receives_in_order i list t' r q k before l =
      let b : k < message_count t = omega (arith, receives_messages r) in
      rw (receives_message r q (omega arith), receives_message r k b, received_at_sender t i list q, received_at_sender t i list k)
      (rw (received_at_sent t i list q, received_at_sent t i list k) (o q k before b))

  -- what remains keeps its order, and is put back in its receipts alone
  rollback_in_order : SentInOrder (after_rollback t)
  rollback_in_order =
      rollback_pairs t InSendOrder
      (λ q k before l.
      let line = recovery_line t in
      rw (put_back_sender line (message_of t q), put_back_sender line (message_of t k))
      (rw (put_back_sent line (message_of t q), put_back_sent line (message_of t k)) (o q k before l)))

pub step_in_order : (t : Table) → WellFormed t → SentInOrder t → (s : Step) → SentInOrder (step t s)
step_in_order t w o =
    step_each t SentInOrder (λ j i _. send_in_order t o w j i) (λ i list t' r _. receives_in_order t o i list t' r) (rollback_in_order t o) o

-- ---- what a search by sender, from the last position down, need not look at
pub no_orphan_before : (t : Table) → SentInOrder t → (l : Line) (q k : ℕ) → q < k → k < message_count t
    → (message_of t q).sender ≡ (message_of t k).sender → (message_of t k).sent < l (message_of t k).sender → Orphan (message_of t q) l → ⊥
no_orphan_before t o l q k before inside same low orphan =
    let here : l (message_of t q).sender ≡ l (message_of t k).sender = ap l same in
    omega (arith, o q k before inside same, orphan.sent_after)
