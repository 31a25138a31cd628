-- Passes over the messages, from the last to the first, as the loops of `passes::lower` and of `few::few_passes` go.
--     LoweringPass                    the invariant of one pass, relative to its line at the start
--     pass_settles                    how it ends: where it lowered nothing, its line is settled
--     NextInPass                      a pass at its next message, whose four numbers were read
--     skips_undelivered, skips_sent_before, skips_received_after, pass_lowers    what its tests say of that message
-- Assumes nothing.
use mathlib.Core.Bool.{Bool, true, false, true≢false}
use mathlib.Core.List.{List, []}
use mathlib.Core.Path.{◌≡◌, refl, ◌∙◌, subst}
use Prim.Native.Nat.{ℕ, ◌-◌, ◌≤◌, ◌<◌}
use native.Mathlib.Decide.{ℕ_discrete}
use native.Mathlib.Omega.{arith}
use lib.ListN.{get_or, set}
use Rattle.consistency.proofs.LoweringLaws.{line_consistent, put_back_falls}
use Rattle.consistency.specs.Lines.{Orphan, as_line}
use Rattle.consistency.specs.Lowering.{line_under}
use Rattle.lowering.proofs.DownLaws.{MessageRead, down_more, down_put_back, message_is, messages-length}
use Rattle.lowering.specs.Lowered.{BroughtDown, all_messages}
use Rattle.tables.proofs.FormatLaws.{message_in}
use Rattle.tables.specs.Lists.{sum}
use Rattle.tables.specs.Table.{Message, message_count, message_of, no_message}
use Rattle.tables.specs.declared.messages.MessageParts.{MessageParts}

-- The pass stands before message k: it has gone over the messages from k on. Its line was brought down from the start.
-- Until it lowers, its line is as at the start and no message that it went over is an orphan; once it has lowered, the sum
-- is smaller.
pub record LoweringPass (parts : MessageParts) (start line : List ℕ) (lowered : Bool) (k : ℕ) : Type 0 where
  pub down : BroughtDown (all_messages parts) start line
  pub unchanged : lowered ≡ false → line ≡ start
  pub no_orphans : lowered ≡ false → (j : ℕ) → k ≤ j → j < parts.count → Orphan (get_or (all_messages parts) j no_message) (as_line line) → ⊥
  pub falls : lowered ≡ true → sum line < sum start

-- a pass that has lowered nothing has found no orphan
pub pass_settles : {parts : MessageParts} {ceiling start line : List ℕ} {lowered : Bool} {k : ℕ} → BroughtDown (all_messages parts) ceiling start
    → LoweringPass parts start line lowered k → k ≤ 0 → lowered ≡ false → line ≡ line_under (all_messages parts) ceiling
unfolding message_of message_count
pass_settles {parts} {line = line} tried w z f =
    let ms = all_messages parts in
    line_consistent ms line (λ j o.
    let inside = message_in (record { counts = []; messages = ms }) j o.delivered in
    w.no_orphans f j (omega arith) (omega (arith, inside, messages-length parts.count parts.sends.now parts.receipts.now)) o)
    ∙ w.down.same_line
    ∙ tried.same_line

-- ---- the next message of a pass
pub record NextInPass (parts : MessageParts) (start line : List ℕ) (lowered : Bool) (k j y i r : ℕ) : Type 0 where
  pub passing : LoweringPass parts start line lowered k
  pub message : MessageRead parts (k - 1) j y i r

module _ {parts : MessageParts} {start line : List ℕ} {lowered : Bool} {k j y i r : ℕ} (x : NextInPass parts start line lowered k j y i r) where
  abbrev here : Message
  here = record { sender = j; sent = y; receiver = i; received = r }

  -- it is no orphan, and the pass goes on
  abbrev Skipped : Type 0
  Skipped = LoweringPass parts start line lowered (k - 1)

  skips : (Orphan here (as_line line) → ⊥) → Skipped
  skips none = record {
    down = x.passing.down;
    unchanged = x.passing.unchanged;
    no_orphans = λ e n l l'. by_place n l l' e (ℕ_discrete n (k - 1));
    falls = x.passing.falls;
  }
    where
      orphan_at : ℕ → Type 0
      orphan_at n = Orphan (get_or (all_messages parts) n no_message) (as_line line)

      by_place : (n : ℕ) → k - 1 ≤ n → n < parts.count → lowered ≡ false → Dec (n ≡ k - 1) → orphan_at n → ⊥
      by_place n l l' e (yes h) o = none (subst (λ (m : Message). Orphan m (as_line line)) (message_is x.message) (subst orphan_at h o))
      by_place n l l' e (no h) o = x.passing.no_orphans e n (omega arith) l' o

  pub skips_undelivered : r ≡ 0 → Skipped
  skips_undelivered e = skips (λ o. omega (arith, o.delivered))

  pub skips_sent_before : y < get_or line j 0 → Skipped
  skips_sent_before h = skips (λ o. omega (arith, o.sent_after))

  pub skips_received_after : get_or line i 0 < r → Skipped
  skips_received_after h = skips (λ o. omega (arith, o.received-before))

  -- it is an orphan, and its receiver is put back
  pub pass_lowers : (r ≡ 0 → ⊥) → get_or line j 0 ≤ y → r ≤ get_or line i 0
      → LoweringPass parts start (set line i (r - 1)) true (k - 1)
  pass_lowers d s b = record {
    down = down_more x.passing.down (down_put_back line (k - 1) here (message_is x.message) orphan);
    unchanged = λ f. absurd (true≢false f);
    no_orphans = λ f. absurd (true≢false f);
    falls = λ _. by_flag lowered x.passing.falls x.passing.unchanged;
  }
    where
      orphan : Orphan here (as_line line)
      orphan = record { delivered = omega arith; sent_after = s; received-before = b }

      less : sum (set line i (r - 1)) < sum line
      less = put_back_falls here line orphan

      by_flag : (b : Bool) → (b ≡ true → sum line < sum start) → (b ≡ false → line ≡ start) → sum (set line i (r - 1)) < sum start
      by_flag true f u = omega (arith, less, f refl)
      by_flag false f u = subst (λ (l : List ℕ). sum (set line i (r - 1)) < sum l) (u refl) less
