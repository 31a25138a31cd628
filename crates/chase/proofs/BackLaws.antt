-- Processes that go back over their messages, as the loops of `chase` go.
--     Chases                      the invariant of the chase, relative to its start
--     chase_begins                how it begins
--     Before                      the message at which a process stands: one of its own, in front of a bound
--     left                        how many messages it has left
--     GoesBack                    the invariant of one process that goes back, relative to the line then
--     back_begins                 how it begins
--     AtOrphan                    an orphan that it comes to
--     back_lowers, back_stacks    the orphan puts its receiver back; that is put on the stack too
--     stack_room                  there is room for it
-- Assumes nothing.
use mathlib.Core.Bool.{Bool, cond, not, true, false}
use mathlib.Core.List.{List}
use mathlib.Core.Path.{◌≡◌, refl, ap, ◌∙◌}
use Prim.Native.Nat.{ℕ, ◌+◌, ◌-◌, ◌≤◌, ◌<◌}
use native.Mathlib.Nat.{le_refl, le_trans, lt_of_lt_of_le}
use native.Mathlib.Omega.{arith}
use lib.ListN.{length, get_or, set, length-set}
use Rattle.std.proofs.Common.{Option, Some, None}
use Rattle.std.proofs.lemmas.List.Sums.{sum_by-set}
use Rattle.std.proofs.lemmas.Option.{IfSome_then}
use Rattle.std.specs.List.{count_by}
use Rattle.std.specs.Prelude.{IfSome}
use Rattle.lowering.proofs.EveryLaws.{every_set, every_tabulate}
use Rattle.sweep.specs.Cursors.{Placed}
use Rattle.consistency.proofs.LoweringLaws.{put_back_falls}
use Rattle.consistency.specs.Lines.{Orphan, as_line}
use Rattle.lowering.proofs.DownLaws.{MessageRead, down_more, down_none, down_put_back, message_is}
use Rattle.lowering.specs.Lowered.{BroughtDown, all_messages}
use Rattle.tables.proofs.ListLaws.{length-tabulate}
use Rattle.tables.specs.Format.{message_at}
use Rattle.tables.specs.Lists.{sum, tabulate}
use Rattle.tables.specs.Table.{Message, most_processes}
use Rattle.tables.specs.declared.messages.MessageParts.{MessageParts}

-- ---- the stack
-- How many processes are not on the stack.
unfoldable pub idle : List Bool → ℕ
idle stacked = count_by not stacked

-- Whether one is, as a number.
abbrev one_off : Bool → ℕ
one_off stacked = cond (not stacked) 1 0

idle_set : (l : List Bool) (p : ℕ) (b : Bool) → p < length l → idle (set l p b) + one_off (get_or l p false) ≡ idle l + one_off b
unfolding idle
idle_set l p b inside = sum_by-set one_off l p b false inside

none_idle : idle (tabulate 32 (λ _. true)) ≡ 0
unfolding tabulate idle
none_idle = refl

-- ---- the chase
-- The line was brought down from the start. Cursors are positions, and what stands on the stack are processes. The stack has room for all
-- that are not on it.
pub record Chases (parts : MessageParts) (start cursors line stack : List ℕ) (stacked : List Bool) (height : ℕ) : Type 0 where
  pub down : BroughtDown (all_messages parts) start line
  pub placed : Placed parts.count cursors
  pub known : (h : ℕ) → get_or stack h 0 < most_processes
  pub flags : length stacked ≡ most_processes
  pub room : height + idle stacked ≤ most_processes

-- at first every process is on the stack
pub chase_begins : {parts : MessageParts} {n : ℕ} {start cursors line stack : List ℕ} → BroughtDown (all_messages parts) start line
    → n ≤ most_processes → Placed parts.count cursors → stack ≡ tabulate 32 (λ p. p)
    → Chases parts start cursors line stack (tabulate 32 (λ _. true)) n
chase_begins down few placed all = record {
  down = down;
  placed = placed;
  known = rw all (every_tabulate (λ p. p < most_processes) 32 (λ p. p) (omega arith) (λ _ l. l));
  flags = length-tabulate 32 (λ _. true);
  room = omega (arith, none_idle, few);
}

-- ---- one process goes back
-- Message k is one of those before a bound, and process p sent it.
abbrev pub Before : MessageParts → ℕ → ℕ → ℕ → Type 0
Before parts p bound k = (k < bound) × ((message_at parts.sends.now parts.receipts.now k).sender ≡ p)

-- Up to and with the message at which it stands; none, where it stands at none.
abbrev pub left : Option ℕ → ℕ
left None = 0
left (Some k) = k + 1

before_more : (parts : MessageParts) (p : ℕ) {bound bound' : ℕ} (next : Option ℕ) → bound ≤ bound' → IfSome next (Before parts p bound)
    → IfSome next (Before parts p bound')
before_more parts p next more e = IfSome_then next e (λ k h. (lt_of_lt_of_le h.0 more, h.1))

-- Process p stands at a message. Each process that was put on the stack has cost the line.
pub record GoesBack (parts : MessageParts) (start : List ℕ) (height₀ : ℕ) (cursors : List ℕ) (p : ℕ) (line stack : List ℕ) (stacked : List Bool)
    (height : ℕ) (next : Option ℕ) : Type 0 where
  pub chasing : Chases parts start cursors line stack stacked height
  pub small : p < most_processes
  pub sent : IfSome next (Before parts p parts.count)
  pub paid : sum line + height ≤ sum start + height₀

module _ {parts : MessageParts} {start cursors line stack : List ℕ} {stacked : List Bool} {height : ℕ}
    (w : Chases parts start cursors line stack stacked height) where
  -- the process on top leaves the stack, and goes on from its cursor
  pub back_begins : {next : Option ℕ} → 0 < height
      → (let p = get_or stack (height - 1) 0 in
      IfSome next (Before parts p (get_or cursors p 0))
      → GoesBack parts line (height - 1) cursors p line stack (set stacked p false) (height - 1) next)
  back_begins {next} more sent =
      let p = get_or stack (height - 1) 0 in
      record {
        chasing = record {
          down = down_none line;
          placed = w.placed;
          known = w.known;
          flags = length-set stacked p false ∙ w.flags;
          room = omega (arith, more, idle_set stacked p false (omega (arith, w.known (height - 1), w.flags)), w.room);
        };
        small = w.known (height - 1);
        sent = before_more parts p next (w.placed p) sent;
        paid = le_refl _;
      }

-- ---- it comes to an orphan
-- The message at which it stands was sent at or above the line from which the process began, and was received at or below its line now.
pub record AtOrphan (parts : MessageParts) (start : List ℕ) (height₀ : ℕ) (cursors : List ℕ) (p : ℕ) (line stack : List ℕ) (stacked : List Bool)
    (height k : ℕ) (next : Option ℕ) (y i r : ℕ) : Type 0 where
  pub going : GoesBack parts start height₀ cursors p line stack stacked height (Some k)
  pub next_sent : IfSome next (Before parts p k)
  pub message : MessageRead parts k p y i r
  pub sent_after : get_or start p 0 ≤ y
  pub delivered : r ≡ 0 → ⊥
  pub received-before : r ≤ get_or line i 0

module _ {parts : MessageParts} {start cursors line stack : List ℕ} {stacked : List Bool} {height₀ p height k y i r : ℕ} {next : Option ℕ}
    (x : AtOrphan parts start height₀ cursors p line stack stacked height k next y i r) where
  abbrev b : GoesBack parts start height₀ cursors p line stack stacked height (Some k)
  b = x.going

  abbrev here : Message
  here = record { sender = p; sent = y; receiver = i; received = r }

  orphan : Orphan here (as_line line)
  orphan = record {
    delivered = omega (arith, x.delivered);
    sent_after = le_trans (b.chasing.down.below p) x.sent_after;
    received-before = x.received-before;
  }

  less : sum (set line i (r - 1)) < sum line
  less = put_back_falls here line orphan

  down : BroughtDown (all_messages parts) start (set line i (r - 1))
  down = down_more b.chasing.down (down_put_back line k here (message_is x.message) orphan)

  sent_next : IfSome next (Before parts p parts.count)
  sent_next = before_more parts p next (omega (arith, b.sent.0)) x.next_sent

  -- its receiver is put back
  pub back_lowers : GoesBack parts start height₀ cursors p (set line i (r - 1)) stack stacked height next
  back_lowers = record {
    chasing = record { down = down; placed = b.chasing.placed; known = b.chasing.known; flags = b.chasing.flags; room = b.chasing.room };
    small = b.small;
    sent = sent_next;
    paid = omega (arith, less, b.paid);
  }

  -- it was not on the stack, and is put there
  module _ (small : i < most_processes) (off : get_or stacked i false ≡ false) where
    fewer : idle (set stacked i true) + 1 ≡ idle stacked
    fewer =
        let one : one_off (get_or stacked i false) ≡ 1 = ap one_off off in
        omega (arith, one, idle_set stacked i true (omega (arith, small, b.chasing.flags)))

    pub stack_room : height < most_processes
    stack_room = omega (arith, fewer, b.chasing.room)

    pub back_stacks : GoesBack parts start height₀ cursors p (set line i (r - 1)) (set stack height i) (set stacked i true) (height + 1) next
    back_stacks = record {
      chasing = record {
        down = down;
        placed = b.chasing.placed;
        known = every_set (λ q. q < most_processes) stack height i small b.chasing.known;
        flags = length-set stacked i true ∙ b.chasing.flags;
        room = omega (arith, fewer, b.chasing.room);
      };
      small = b.small;
      sent = sent_next;
      paid = omega (arith, less, b.paid);
    }
