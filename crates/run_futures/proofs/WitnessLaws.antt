-- Futures that need what the sheet keeps. Where every process outside a set checkpoints once, receiving nothing, the recovery line
-- at the end is the line of the set: the messages are as they were, and the last checkpoints are now the set's ceiling. With one
-- process left out it is that single holder's line. With nobody left out it is the counts, before which every message was sent;
-- an undelivered message may cross no single holder's line, and only this future shows that it is needed.
--     others_checkpoint           such a future
--     Waited, others_end         the table at its end: one checkpoint more outside the set, and everything in its place
--     others_line                its recovery line is the line of the set
--     others_need_checkpoint, others_need_message      so it needs what lies on that line, and what is open over it
--     checkpoint-kept_needed, message_kept_needed      what the sheet keeps, some future needs
-- Assumes nothing.
use mathlib.Core.Bool.{Bool, true, false, cond}
use mathlib.Core.List.{List, [], ◌∷◌}
use mathlib.Core.Logic.{◌⊎◌, inl, inr}
use mathlib.Core.Path.{◌≡◌, refl, sym, ap, ◌∙◌, subst⁻¹}
use Prim.Native.Nat.{ℕ, zero, suc, ◌+◌, ◌-◌, ◌≤◌, ◌<◌}
use native.Mathlib.Decide.{ℕ_discrete}
use native.Mathlib.Nat.{not-suc-le-zero}
use native.Mathlib.Omega.{arith}
use lib.ListN.{get_or}
use lib.Seq.{ext_get_or}
use Rattle.consistency.proofs.CeilingLaws.{ceiling_at_lem, ceiling_length, line_of_none}
use Rattle.consistency.specs.Ceilings.{Holders, ceiling_of, holder_line, line_of, recovery_line, single}
use Rattle.consistency.specs.Lines.{as_line}
use Rattle.consistency.specs.Lowering.{line_under}
use Rattle.keep_sheet.proofs.KeptLaws.{Across, HolderWith, keeps_checkpoint_lem, keeps_message_lem}
use Rattle.steps.proofs.StepLaws.{checkpoint_count_here, checkpoint_count_other, checkpoint_receives, checkpoint_step, nothing_quiet, receipt_of_nothing}
use Rattle.run_futures.specs.Futures.{CheckpointNeeded, FollowedTo, Future, MessageNeeded, NeedsCheckpoint, NeedsMessage, StepKeeps, StillThere, end_of}
use Rattle.run_futures.specs.Futures.{moved, place_of}
use Rattle.keep_sheet.specs.Sheet.{keeps_checkpoint, keeps_message}
use Rattle.steps.specs.Steps.{after_checkpoint, checkpoint, step}
use Rattle.tables.specs.Checks.{WellFormed}
use Rattle.tables.specs.Table.{Message, Table, count_of, message_count, message_of, no_message, process_count}

-- Each process below n outside a set checkpoints once, receiving nothing.
unfoldable pub others_checkpoint : Holders → ℕ → Future
others_checkpoint holds zero = []
others_checkpoint holds (suc n) = cond (holds n) (others_checkpoint holds n) (checkpoint n [] ∷ others_checkpoint holds n)

-- ---- one such checkpoint
module _ (t : Table) (i : ℕ) (known : i < process_count t) where
  alone : step t (checkpoint i []) ≡ after_checkpoint t i []
  alone = checkpoint_step t i [] (nothing_quiet t i known)

  alone-messages : (after_checkpoint t i []).messages ≡ t.messages
  alone-messages = (checkpoint_receives t i []).messages_are ∙ ap (λ (x : Table). x.messages) (receipt_of_nothing t i)

-- ---- all of them
-- A future after which each process below n outside the set has one checkpoint more, and everything else is as it was, in its place.
pub record Waited (holds : Holders) (n : ℕ) (t : Table) (future : Future) : Type 0 where
  pub same_processes : process_count (end_of t future) ≡ process_count t
  pub same_messages : (end_of t future).messages ≡ t.messages
  pub counts_below : (p : ℕ) → p < n → count_of (end_of t future) p ≡ cond (holds p) (count_of t p) (count_of t p + 1)
  pub counts_beyond : (p : ℕ) → n ≤ p → count_of (end_of t future) p ≡ count_of t p
  pub all_there : (i c : ℕ) → StillThere t future i c
  pub all_followed : (k : ℕ) → FollowedTo t future k k

module _ (holds : Holders) where
  -- a holder does nothing
  holder_waits : (n : ℕ) (t : Table) (future : Future) → holds n ≡ true → Waited holds n t future → Waited holds (suc n) t future
  holder_waits n t future h a = record {
    same_processes = a.same_processes;
    same_messages = a.same_messages;
    counts_below = λ p l. go p l (ℕ_discrete p n);
    counts_beyond = λ p l. a.counts_beyond p (omega arith);
    all_there = a.all_there;
    all_followed = a.all_followed;
  }
    where
      go : (p : ℕ) → p < suc n → Dec (p ≡ n) → count_of (end_of t future) p ≡ cond (holds p) (count_of t p) (count_of t p + 1)
      go p l (yes e) = rw (ap holds e ∙ h) (a.counts_beyond p (omega arith))
      go p l (no e) = a.counts_below p (omega arith)

  -- any other process checkpoints
  other_checkpoints : (n : ℕ) (t : Table) (future : Future) → holds n ≡ false → n < process_count t → Waited holds n (after_checkpoint t n []) future
      → Waited holds (suc n) t (checkpoint n [] ∷ future)
  unfolding end_of StepKeeps StillThere FollowedTo place_of moved
  other_checkpoints n t future h known a = record {
    same_processes = ap (λ (x : Table). process_count (end_of x future)) (alone t n known) ∙ a.same_processes
        ∙ (checkpoint_receives t n []).same_processes;
    same_messages = ap (λ (x : Table). (end_of x future).messages) (alone t n known) ∙ a.same_messages ∙ alone-messages t n known;
    counts_below = λ p l. count p ∙ go p l (ℕ_discrete p n);
    counts_beyond = λ p l. count p ∙ a.counts_beyond p (omega arith) ∙ checkpoint_count_other t n [] p (omega arith);
    all_there = λ i c. (tt, subst⁻¹ (λ (x : Table). StillThere x future i c) (alone t n known) (a.all_there i c));
    all_followed = λ k. subst⁻¹ (λ (x : Table). FollowedTo x future k k) (alone t n known) (a.all_followed k);
  }
    where
      after : Table
      after = after_checkpoint t n []

      count : (p : ℕ) → count_of (end_of (step t (checkpoint n [])) future) p ≡ count_of (end_of after future) p
      count p = ap (λ (x : Table). count_of (end_of x future) p) (alone t n known)

      go : (p : ℕ) → p < suc n → Dec (p ≡ n) → count_of (end_of after future) p ≡ cond (holds p) (count_of t p) (count_of t p + 1)
      go p l (yes e) =
          rw (ap holds e ∙ h)
          (a.counts_beyond p (omega arith) ∙ ap (count_of after) e ∙ checkpoint_count_here t n [] known ∙ ap (λ (q : ℕ). count_of t q + 1) (sym e))
      go p l (no e) = a.counts_below p (omega arith) ∙ ap (λ (x : ℕ). cond (holds p) x (x + 1)) (checkpoint_count_other t n [] p e)

  pub others_end : (n : ℕ) (t : Table) → n ≤ process_count t → Waited holds n t (others_checkpoint holds n)
  unfolding others_checkpoint end_of StillThere FollowedTo place_of
  others_end zero t l = record {
    same_processes = refl;
    same_messages = refl;
    counts_below = λ p b. absurd (not-suc-le-zero b);
    counts_beyond = λ p b. refl;
    all_there = λ i c. tt;
    all_followed = λ k. refl;
  }
  others_end (suc n) t l =
      go (holds n) refl (others_end n t (omega arith)) (others_end n (after_checkpoint t n []) (omega (arith, (checkpoint_receives t n []).same_processes)))
    where
      go : (b : Bool) → holds n ≡ b → Waited holds n t (others_checkpoint holds n)
          → Waited holds n (after_checkpoint t n []) (others_checkpoint holds n)
          → Waited holds (suc n) t (cond b (others_checkpoint holds n) (checkpoint n [] ∷ others_checkpoint holds n))
      go true h waits checkpoints = holder_waits n t (others_checkpoint holds n) h waits
      go false h waits checkpoints = other_checkpoints n t (others_checkpoint holds n) h (omega arith) checkpoints

-- ---- the recovery line at the end
-- the last checkpoint of each process is where the ceiling of the set has it
last_at : (c : ℕ) (b : Bool) → cond b c (c + 1) - 1 ≡ cond b (c - 1) c
last_at c true = refl
last_at c false = omega arith

module _ (t : Table) (holds : Holders) where
  abbrev others : Future
  others = others_checkpoint holds (process_count t)

  abbrev E : Table
  E = end_of t others

  waited : Waited holds (process_count t) t others
  waited = others_end holds (process_count t) t (omega arith)

  same_ceiling : ceiling_of E (λ p. true) ≡ ceiling_of t holds
  same_ceiling =
      ext_get_or 0 (ceiling_of E (λ p. true)) (ceiling_of t holds) (ceiling_length E (λ p. true) ∙ waited.same_processes ∙ sym (ceiling_length t holds))
      (λ p l.
      let inside : p < process_count t = omega (arith, ceiling_length E (λ p. true), waited.same_processes) in
      ceiling_at_lem E (λ p. true) p ∙ ap (λ (x : ℕ). x - 1) (waited.counts_below p inside) ∙ last_at (count_of t p) (holds p)
      ∙ sym (ceiling_at_lem t holds p))

  pub others_line : recovery_line (end_of t (others_checkpoint holds (process_count t))) ≡ line_of t holds
  unfolding recovery_line line_of
  others_line = ap (λ (ms : List Message). line_under ms (ceiling_of E (λ p. true))) waited.same_messages ∙ ap (line_under t.messages) same_ceiling

  others_message : (k : ℕ) → message_of E k ≡ message_of t k
  unfolding message_of
  others_message k = ap (λ (ms : List Message). get_or ms k no_message) waited.same_messages

  -- what lies on the line of the set, or is sent before it and not received before it, this future needs
  pub others_need_checkpoint : (i c : ℕ) → c < count_of t i → as_line (line_of t holds) i ≡ c
      → NeedsCheckpoint t (others_checkpoint holds (process_count t)) i c
  others_need_checkpoint i c b on = record {
    a_checkpoint = b;
    still_there = waited.all_there i c;
    on_the_line = ap (λ (l : List ℕ). as_line l i) others_line ∙ on;
  }

  pub others_need_message : (k : ℕ) → k < message_count t → (message_of t k).sent < as_line (line_of t holds) (message_of t k).sender
      → ((message_of t k).received ≡ 0) ⊎ (as_line (line_of t holds) (message_of t k).receiver < (message_of t k).received)
      → NeedsMessage t (others_checkpoint holds (process_count t)) k
  others_need_message k l sent_before not_received = record {
    a_message = l;
    position = k;
    still_there = waited.all_followed k;
    sent_before = rw (others_message k, others_line) sent_before;
    not_received = rw (others_message k, others_line) not_received;
  }

-- ---- what is kept, some future needs
module _ (t : Table) where
  pub checkpoint-kept_needed : (i c : ℕ) → keeps_checkpoint t i c ≡ true → CheckpointNeeded t i c
  unfolding CheckpointNeeded holder_line
  checkpoint-kept_needed i c e =
      let kept = (keeps_checkpoint_lem t i c).0 e in
      let k = kept.1.0 in
      (others_checkpoint (single k) (process_count t), others_need_checkpoint t (single k) i c kept.0 kept.1.2)

  pub message_kept_needed : WellFormed t → (k : ℕ) → k < message_count t → keeps_message t (message_of t k) ≡ true → MessageNeeded t k
  unfolding MessageNeeded holder_line
  message_kept_needed w k l e = go ((keeps_message_lem t (message_of t k)).0 e)
    where
      nobody : Holders
      nobody p = false

      counts : (p : ℕ) → as_line (line_of t nobody) p ≡ count_of t p
      counts p = unfold count_of in ap (λ (x : List ℕ). as_line x p) (line_of_none t w)

      go : ((message_of t k).received ≡ 0) ⊎ HolderWith t (λ l. Across (message_of t k) (as_line l)) → MessageNeeded t k
      go (inl waits) = (
        others_checkpoint nobody (process_count t),
        others_need_message t nobody k l
            (omega (arith, counts (message_of t k).sender, (w.good_messages k l).sent_below)) (inl waits),
      )
      go (inr h) = (others_checkpoint (single h.0) (process_count t), others_need_message t (single h.0) k l h.2.0 (inr h.2.1))
