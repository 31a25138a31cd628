-- Lines that are brought down, and a message that was read.
--     down_none, down_more            a line as it is; one after another
--     down_put_back                   a line whose orphan puts its receiver back
--     MessageRead                     a message whose four numbers were read
--     message_is                      it is the message at its position
--     messages-length                 how many messages there are
-- Assumes nothing.
use mathlib.Core.List.{List}
use mathlib.Core.Path.{refl, sym, ◌≡◌, ◌∙◌}
use Prim.Native.Nat.{ℕ, ◌-◌, ◌<◌}
use native.Mathlib.Nat.{le_refl, le_trans}
use lib.ListN.{length, get_or, set}
use Rattle.consistency.proofs.LoweringLaws.{line_put_back, put_back_under}
use Rattle.consistency.specs.Lines.{Orphan, as_line}
use Rattle.lowering.specs.Lowered.{BroughtDown, all_messages, messages_of}
use Rattle.tables.proofs.CodingLaws.{message_path}
use Rattle.tables.proofs.ListLaws.{get_or_tabulate, length-tabulate}
use Rattle.tables.specs.Format.{message_at}
use Rattle.tables.specs.Table.{Message, no_message}
use Rattle.tables.specs.declared.messages.MessageParts.{MessageParts}

module _ {ms : List Message} where
  pub down_none : (l : List ℕ) → BroughtDown ms l l
  down_none l = record { below = λ p. le_refl (as_line l p); same_line = refl }

  pub down_more : {start l l' : List ℕ} → BroughtDown ms start l → BroughtDown ms l l' → BroughtDown ms start l'
  down_more d d' = record { below = λ p. le_trans (d'.below p) (d.below p); same_line = d'.same_line ∙ d.same_line }

  pub down_put_back : (l : List ℕ) (k : ℕ) (m : Message) → get_or ms k no_message ≡ m → Orphan m (as_line l)
      → BroughtDown ms l (set l m.receiver (m.received - 1))
  down_put_back l k m e o = record { below = put_back_under m l o; same_line = line_put_back ms l k m e o }

-- Message k: its sender and where it was sent, its receiver and where it was received.
pub record MessageRead (parts : MessageParts) (k j y i r : ℕ) : Type 0 where
  pub there : k < parts.count
  pub sender : j ≡ (message_at parts.sends.now parts.receipts.now k).sender
  pub sent : y ≡ (message_at parts.sends.now parts.receipts.now k).sent
  pub receiver : i ≡ (message_at parts.sends.now parts.receipts.now k).receiver
  pub received : r ≡ (message_at parts.sends.now parts.receipts.now k).received

pub message_is : {parts : MessageParts} {k j y i r : ℕ} → MessageRead parts k j y i r
    → get_or (all_messages parts) k no_message ≡ record { sender = j; sent = y; receiver = i; received = r }
unfolding messages_of
message_is {parts} {k} x =
    get_or_tabulate parts.count (message_at parts.sends.now parts.receipts.now) k no_message x.there
    ∙ message_path (message_at parts.sends.now parts.receipts.now k) _ (sym x.sender) (sym x.sent) (sym x.receiver) (sym x.received)

pub messages-length : (m : ℕ) (sends receipts : List ℕ) → length (messages_of m sends receipts) ≡ m
unfolding messages_of
messages-length m sends receipts = length-tabulate m (message_at sends receipts)
