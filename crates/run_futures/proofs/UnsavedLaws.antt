-- Messages that are unsaved.
--     receipts_hold    what is claimed of them holds in every well formed table
-- Assumes nothing.
use mathlib.Core.Bool.{Bool, true, false, ◌&&◌, false≢true}
use mathlib.Core.List.{List, [], ◌∷◌, ◌++◌}
use mathlib.Core.Path.{◌≡◌, refl, sym, ap, ◌∙◌, subst, subst⁻¹}
use Prim.Native.Nat.{ℕ, ◌+◌, ◌-◌, ◌<◌, ◌≤◌, zero-le}
use native.Mathlib.Nat.{le_refl}
use native.Mathlib.Omega.{arith}
use borrow.Author.Tests.{eq-eqb, ne_eqb}
use lib.Dec.{eqb}
use lib.ListN.{length, get_or}
use Rattle.consistency.specs.Ceilings.{holder_line, recovery_line}
use Rattle.consistency.specs.Lines.{as_line}
use Rattle.run_futures.proofs.FutureLaws.{checkpoint_grown, survival_holds}
use Rattle.keep_sheet.proofs.KeptLaws.{Ordered, listed_any, listed_at, select_listed, select_ordered}
use Rattle.steps.proofs.OrderLaws.{OlderListed, neighbours_rise}
use Rattle.steps.proofs.StepLaws.{Waiting, checkpoint_count_here, checkpoint_step, receipt_count, receipt_known, receipt_of_nothing}
use Rattle.steps.proofs.StepLaws.{receipt_older, receipt_quiet, receipt_receives, receive_step, received_at_listed, receives_message}
use Rattle.steps.proofs.StepLaws.{receives_messages, recovery_latest, rollback_count, rollback_each, stays_sent, step_cases, waits_for_lem}
use Rattle.run_futures.specs.Futures.{FollowedTo, StepKeeps, StillThere, end_of, moved, place_of}
use Rattle.keep_sheet.specs.Sheet.{crosses, keeps_message}
use Rattle.steps.specs.Steps.{after_checkpoint, after_receipt, after_rollback, checkpoint, not_rising, receipt_checks, receive, rollback, stays, step}
use Rattle.steps.specs.Steps.{waits_for}
use Rattle.run_futures.specs.Unsaved.{Receipts, Unsaved, waiting_up_to}
use Rattle.tables.proofs.ListLaws.{and_left, and_right, select_gap, select_more}
use Rattle.tables.proofs.TurnLaws.{channel_on, channel_same, one_channel, undelivered_waits, waits_undelivered}
use Rattle.tables.specs.Checks.{WellFormed, first_caught, same_channel, waits}
use Rattle.tables.specs.Lists.{any, any_below, select}
use Rattle.tables.specs.Table.{Message, Table, count_of, message_count, message_of, process_count, with_receipt}

-- ---- the waiting messages of a channel, up to one
module _ (t : Table) (k : ℕ) where
  abbrev together : List ℕ
  together = waiting_up_to t k

  abbrev test : ℕ → Bool
  test q = same_channel (message_of t q) (message_of t k) && waits (message_of t q)

  abbrev UpTo : ℕ → Type 0
  UpTo q = (q ≤ k) × (same_channel (message_of t q) (message_of t k) ≡ true) × ((message_of t q).received ≡ 0)

  entry : (a : ℕ) → a < length together → UpTo (get_or together a 0)
  unfolding waiting_up_to
  entry a l =
      let q = get_or together a 0 in
      let m = message_of t q in
      let passes = (select_listed test (k + 1) q).0 (listed_at together a 0 l) in (
        omega (arith, passes.0),
        and_left (same_channel m (message_of t k)) (waits m) passes.1,
        waits_undelivered m (and_right (same_channel m (message_of t k)) (waits m) passes.1),
      )

  listed_together : (q : ℕ) → q ≤ k → same_channel (message_of t q) (message_of t k) ≡ true → (message_of t q).received ≡ 0
      → any (eqb q) together ≡ true
  unfolding waiting_up_to
  listed_together q up_to_lem same undelivered =
      let passes : test q ≡ true = rw (same, undelivered_waits (message_of t q) undelivered) in
      listed_any q together ((select_listed test (k + 1) q).1 (omega arith, passes))

  together_rises : not_rising together ≡ false
  unfolding waiting_up_to Ordered
  together_rises = neighbours_rise together (λ a pos l. select_ordered test (k + 1) (a - 1) a 0 (omega arith) l)

  -- none but k itself, where no older one waits
  together_alone : waits (message_of t k) ≡ true
      → ((q : ℕ) → q < k → same_channel (message_of t q) (message_of t k) ≡ true → waits (message_of t q) ≡ true → ⊥)
      → together ≡ k ∷ []
  unfolding waiting_up_to select
  together_alone waiting none =
      let m = message_of t k in
      let here : test k ≡ true = rw (channel_same m m refl refl, waiting) in
      select_more test k here ∙ ap (λ (l : List ℕ). l ++ (k ∷ [])) (select_gap test 0 k zero-le (λ q _ before. older q before (test q) refl))
    where
      older : (q : ℕ) → q < k → (b : Bool) → test q ≡ b → b ≡ false
      older q before true e =
          let same = same_channel (message_of t q) (message_of t k) in
          absurd (none q before (and_left same (waits (message_of t q)) e) (and_right same (waits (message_of t q)) e))
      older q before false e = refl

module _ (t : Table) (w : WellFormed t) where
  -- ---- a message that waits, received with those of its channel that wait before it
  module _ (i k : ℕ) (l : k < message_count t) (here : waits_for i (message_of t k) ≡ true) where
    waiting : Waiting t i k
    waiting = waits_for_lem t i k l here

    known : i < process_count t
    known = subst (λ (p : ℕ). p < process_count t) waiting.to_process (w.good_messages k l).receiver_known

    taken : step t (receive i (together t k)) ≡ after_receipt t i (together t k)
    taken = receive_step t i (together t k) (receipt_quiet t i (together t k) known each (together_rises t k) older)
      where
        each : (a : ℕ) → a < length (together t k) → Waiting t i (get_or (together t k) a 0)
        each a b =
            let q = get_or (together t k) a 0 in
            record {
              a_message = omega (arith, l, (entry t k a b).0);
              to_process = (one_channel (message_of t q) (message_of t k) (entry t k a b).1).1 ∙ waiting.to_process;
              undelivered = (entry t k a b).2;
            }

        older : (a : ℕ) → a < length (together t k) → OlderListed t (together t k) (get_or (together t k) a 0)
        older a b q before same undelivered =
            let n = get_or (together t k) a 0 in
            listed_together t k q (omega (arith, (entry t k a b).0))
            (channel_on (message_of t q) (message_of t n) (message_of t k) same (entry t k a b).1) undelivered

    unsaved : Unsaved (after_receipt t i (together t k)) k
    unfolding Unsaved
    unsaved =
        let r = receipt_receives t i (together t k) in
        let m = message_of t k in
        let listed = listed_together t k k (le_refl k) (channel_same m m refl refl) waiting.undelivered in
        let is : message_of (after_receipt t i (together t k)) k ≡ with_receipt m (count_of t i) =
        receives_message r k l ∙ received_at_listed t i (together t k) k listed in (
          omega (arith, receives_messages r),
          subst⁻¹ (λ (x : Message). x.received ≡ count_of (after_receipt t i (together t k)) x.receiver) is
              (ap (count_of t) (sym waiting.to_process) ∙ sym (receipt_count t i (together t k) m.receiver)),
        )

    received_in_turn : Unsaved (end_of t (receive i (waiting_up_to t k) ∷ [])) k
    unfolding end_of
    received_in_turn = subst⁻¹ (λ (x : Table). Unsaved x k) taken unsaved

    received-first : ((q : ℕ) → q < k → same_channel (message_of t q) (message_of t k) ≡ true → waits (message_of t q) ≡ true → ⊥)
        → Unsaved (end_of t (receive i (k ∷ []) ∷ [])) k
    received-first none =
        subst (λ (list : List ℕ). Unsaved (end_of t (receive i list ∷ [])) k)
        (together_alone t k (undelivered_waits (message_of t k) waiting.undelivered) none) received_in_turn

  -- ---- received alone, it would pass over an older one
  module _ (i q k : ℕ) (before : q < k) (same : same_channel (message_of t q) (message_of t k) ≡ true) (older : waits (message_of t q) ≡ true) where
    abbrev alone : List ℕ
    alone = k ∷ []

    caught : first_caught (receipt_checks t i alone) ≡ 0 → ⊥
    unfolding any
    caught quiet =
        let here : any (eqb k) alone ≡ true = rw (eq-eqb k k refl) in
        let unlisted : any (eqb q) alone ≡ false = rw (ne_eqb q k (λ e. omega arith)) in
        false≢true (sym unlisted ∙ receipt_older t i alone quiet k here q before same (waits_undelivered (message_of t q) older))

    alone_leaves : (step t (receive i alone) ≡ t) × (step t (checkpoint i alone) ≡ t)
    unfolding step
    alone_leaves = (
      step_cases (receipt_checks t i alone) (after_receipt t i alone) t (λ x. x ≡ t) (λ quiet. absurd (caught quiet)) refl,
      step_cases (receipt_checks t i alone) (after_checkpoint t i alone) t (λ x. x ≡ t) (λ quiet. absurd (caught quiet)) refl,
    )

  -- ---- a receipt of nothing changes nothing
  none_received : (i : ℕ) → step t (receive i []) ≡ t
  unfolding step
  none_received i = step_cases (receipt_checks t i []) (after_receipt t i []) t (λ x. x ≡ t) (λ _. receipt_of_nothing t i) refl

  -- ---- a checkpoint saves what is unsaved, as it is
  module _ (i : ℕ) (list : List ℕ) (quiet : first_caught (receipt_checks t i list) ≡ 0) (k : ℕ) (u : Unsaved t k)
      (to-i : (message_of t k).receiver ≡ i) where
    saved_as_it_is : (message_of (step t (checkpoint i list)) k ≡ message_of t k) × ((message_of t k).received < count_of (step t (checkpoint i list)) i)
    unfolding Unsaved
    saved_as_it_is =
        let known = receipt_known t i list quiet in
        let is : (message_of t k).received ≡ count_of t i = u.1 ∙ ap (count_of t) to-i in (
          ((checkpoint_grown t i list).messages_go_on k u.0).received-stay (omega (arith, w.some_checkpoint i known)),
          subst⁻¹ (λ (x : Table). (message_of t k).received < count_of x i) (checkpoint_step t i list quiet)
              (omega (arith, checkpoint_count_here t i list known)),
        )

  -- ---- a rollback leaves none: what was received after the line waits again, and the line is below the count
  none_rolled_back : (k : ℕ) → Unsaved (step t rollback) k → ⊥
  unfolding Unsaved step
  none_rolled_back k u = rollback_each t Saved (λ k l _ e. late k l 0 (omega arith) e) (λ k l _ b e. late k l _ b e) k u.0 u.1
    where
      Saved : Message → Type 0
      Saved m = m.received ≡ count_of (after_rollback t) m.receiver → ⊥

      late : (k : ℕ) → k < message_count t → (n : ℕ) → n ≤ as_line (recovery_line t) (message_of t k).receiver
          → n ≡ count_of (after_rollback t) (message_of t k).receiver → ⊥
      late k l n b e = omega (arith, rollback_count t (message_of t k).receiver (w.good_messages k l).receiver_known)

  -- where its send remains it waits again: it was received at the count, above the line
  waiting_again : (k : ℕ) → Unsaved t k → stays (recovery_line t) (message_of t k) ≡ true
      → (n : ℕ) × FollowedTo t (rollback ∷ []) k n × ((message_of (step t rollback) n).received ≡ 0)
  unfolding Unsaved
  waiting_again k u e =
      let m = message_of t k in
      let there = ((survival_holds t).rolled_message k u.0).1 (stays_sent (recovery_line t) m e) in
      let count = w.some_checkpoint m.receiver (w.good_messages k u.0).receiver_known in
      let again = ((survival_holds t).rolled_receipt k there.0 u.0 there.1).1 (omega (arith, u.1, (recovery_latest t).under m.receiver, count)) in
      (there.0, there.1, ap (λ (x : Message). x.received) again)

  -- ---- the sheet
  kept_across : (k : ℕ) → Unsaved t k
      → keeps_message t (message_of t k) ≡ any_below (process_count t) (λ h. crosses (as_line (holder_line t h)) (message_of t k))
  unfolding Unsaved keeps_message
  kept_across k u =
      let m = message_of t k in
      rw (ne_eqb m.received 0 (λ e. omega (arith, u.1, w.some_checkpoint m.receiver (w.good_messages k u.0).receiver_known)))

pub receipts_hold : (t : Table) → WellFormed t → Receipts t
unfolding StillThere StepKeeps FollowedTo place_of moved
receipts_hold t w =
    record {
      received = received_in_turn t w;
      received_alone = received-first t w;
      passed_over = alone_leaves t w;
      nothing_lost = λ i list. (λ p c. (tt, tt), λ k. refl);
      of_nothing = none_received t w;
      saved = saved_as_it_is t w;
      rolled_back = none_rolled_back t w;
      waits_again = waiting_again t w;
      kept = kept_across t w;
    }
