-- Laws of futures: what a list of steps keeps of the run that it starts from.
--     TableGrown, send_grown, receipt_grown, checkpoint_grown    all but a rollback keep every checkpoint and message, and receive late
--     LosesNothing, by_step            a step that is no rollback loses nothing, and moves nothing; what holds of it, and of a rollback
--     rollback_keeps, rolled_place     what a rollback keeps, and where it moves a message that stays
--     rolled_to, rolled_message        where a rollback moves a message, and what it makes of it
--     moved_inside, moved_same, moved_order    the messages over one step
--     still_there_count                a checkpoint that is still there is a checkpoint of the last table
--     followed_in                      so is a message one of its messages, with the sender, send number and receiver that it had
--     followed_order                   messages that are still there keep their order
--     end_in_order, run_in_order       the messages of each sender stay in the order sent, and are so in a run that began without messages
--     needs_checkpoint_now, needs_message_now            the empty future needs what the table's own recovery line needs
--     survival_holds                   what is claimed of all that is still there holds in every table
-- Assumes nothing.
use mathlib.Core.Bool.{Bool, true, false}
use mathlib.Core.List.{List, [], ◌∷◌, ◌++◌}
use mathlib.Core.Logic.{◌↔◌, ◌⊎◌}
use mathlib.Core.Path.{◌≡◌, refl, sym, ap, ◌∙◌, subst, subst⁻¹}
use Prim.Native.Nat.{ℕ, ◌≤◌, ◌<◌}
use native.Mathlib.Decide.{ℕ_discrete}
use native.Mathlib.Nat.{le_refl}
use native.Mathlib.Omega.{arith}
use borrow.Author.Tests.{lt-ltb}
use lib.Dec.{eqb}
use lib.ListN.{length, take}
use Rattle.consistency.specs.Ceilings.{recovery_line}
use Rattle.consistency.specs.Lines.{AtOrBelow, as_line}
use Rattle.steps.proofs.SendOrderLaws.{nothing_sent, step_in_order}
use Rattle.steps.proofs.StepLaws.{Receives, checkpoint_receives, put_back_receiver, put_back_sender, put_back_sent, receipt_receives, receipt_waiting}
use Rattle.steps.proofs.StepLaws.{received_at_listed, received_at_unlisted, receives_message, receives_messages, rollback_count, rollback_message}
use Rattle.steps.proofs.StepLaws.{put_back_after, put_back-before, rollback_order, stays_sent}
use Rattle.steps.proofs.StepLaws.{rollback_place, send_count, send_message_new, send_message_old, send-messages, step_cases, step_well_formed}
use Rattle.run_futures.specs.Futures.{FollowedTo, Future, NeedsCheckpoint, NeedsMessage, Place, StepKeeps, StillThere, at_position, end_of, gone, moved}
use Rattle.run_futures.specs.Futures.{place_of}
use Rattle.run_futures.specs.Survival.{EachLine, NotBelow, SameMessage, SentBefore, Survival}
use Rattle.steps.specs.SendOrder.{SentInOrder}
use Rattle.steps.specs.Steps.{Step, after_checkpoint, after_receipt, after_rollback, after_send, checkpoint, put_back, receipt_checks, receive, received_at}
use Rattle.steps.specs.Steps.{remaining, rollback, send, send_checks, stays, step}
use Rattle.tables.proofs.FormatLaws.{known_process, message_beyond}
use Rattle.tables.specs.Checks.{WellFormed, first_caught}
use Rattle.tables.specs.Lists.{any}
use Rattle.tables.specs.Table.{Message, Table, count_of, message_count, message_of, table_of}

-- ---- one step
-- How a message goes on in a send, a receipt or a checkpoint: it is received at most once, and after every checkpoint that there was.
pub record MessageGoesOn (t : Table) (m m' : Message) : Type 0 where
  pub same : SameMessage m m'
  pub received-stay : 0 < m.received → m' ≡ m
  pub received_late : m.received ≡ 0 → 0 < m'.received → count_of t m'.receiver ≤ m'.received

-- What these steps do: they keep every checkpoint, and every message at its position; new messages are undelivered.
pub record TableGrown (t t' : Table) : Type 0 where
  pub counts_grow : AtOrBelow (count_of t) (count_of t')
  pub messages_grow : message_count t ≤ message_count t'
  pub messages_go_on : (k : ℕ) → k < message_count t → MessageGoesOn t (message_of t k) (message_of t' k)
  pub new_undelivered : (k : ℕ) → message_count t ≤ k → (message_of t' k).received ≡ 0

module _ (t : Table) where
  unchanged : (m : Message) → MessageGoesOn t m m
  unchanged m = record { same = refl; received-stay = λ _. refl; received_late = λ e d. absurd (omega arith) }

  pub beyond_undelivered : (k : ℕ) → message_count t ≤ k → (message_of t k).received ≡ 0
  beyond_undelivered k l = ap (λ (m : Message). m.received) (message_beyond t k l)

  table_grown : TableGrown t t
  table_grown = record {
    counts_grow = λ p. le_refl (count_of t p);
    messages_grow = le_refl (message_count t);
    messages_go_on = λ k l. unchanged (message_of t k);
    new_undelivered = beyond_undelivered;
  }

module _ (t : Table) where
  pub send_grown : (j i : ℕ) → TableGrown t (step t (send j i))
  unfolding step
  send_grown j i = step_cases (send_checks t j i) (after_send t j i) t (TableGrown t) (λ _. record {
    counts_grow = λ p. omega (arith, send_count t j i p);
    messages_grow = omega (arith, send-messages t j i);
    messages_go_on = λ k l. subst⁻¹ (MessageGoesOn t (message_of t k)) (send_message_old t j i k l) (unchanged t (message_of t k));
    new_undelivered = λ k l. new k l (ℕ_discrete k (message_count t));
  }) (table_grown t)
    where
      new : (k : ℕ) → message_count t ≤ k → Dec (k ≡ message_count t) → (message_of (after_send t j i) k).received ≡ 0
      new k l (yes e) = ap (λ (m : Message). m.received) (ap (message_of (after_send t j i)) e ∙ send_message_new t j i)
      new k l (no e) = beyond_undelivered (after_send t j i) k (omega (arith, send-messages t j i))

  -- a listed message is received at the count, which no checkpoint has reached
  receives_grown : (i : ℕ) (list : List ℕ) (t' : Table) → Receives t i list t' → first_caught (receipt_checks t i list) ≡ 0 → TableGrown t t'
  receives_grown i list t' r quiet = record {
    counts_grow = r.counts_grow;
    messages_grow = omega (arith, receives_messages r);
    messages_go_on = λ k l. subst⁻¹ (MessageGoesOn t (message_of t k)) (receives_message r k l) (goes_on k (any (eqb k) list) refl);
    new_undelivered = λ k l. beyond_undelivered t' k (omega (arith, receives_messages r));
  }
    where
      goes_on : (k : ℕ) (listed : Bool) → any (eqb k) list ≡ listed → MessageGoesOn t (message_of t k) (received_at t i list k)
      goes_on k true e =
          let waits = receipt_waiting t i list quiet k e in
          subst⁻¹ (MessageGoesOn t (message_of t k)) (received_at_listed t i list k e) (record {
            same = refl;
            received-stay = λ d. absurd (omega (arith, waits.undelivered));
            received_late = λ _ _. subst⁻¹ (λ (p : ℕ). count_of t p ≤ count_of t i) waits.to_process (le_refl (count_of t i));
          })
      goes_on k false e = subst⁻¹ (MessageGoesOn t (message_of t k)) (received_at_unlisted t i list k e) (unchanged t (message_of t k))

  pub receipt_grown : (i : ℕ) (list : List ℕ) → TableGrown t (step t (receive i list))
  unfolding step
  receipt_grown i list =
      step_cases (receipt_checks t i list) (after_receipt t i list) t (TableGrown t)
      (receives_grown i list (after_receipt t i list) (receipt_receives t i list)) (table_grown t)

  pub checkpoint_grown : (i : ℕ) (list : List ℕ) → TableGrown t (step t (checkpoint i list))
  unfolding step
  checkpoint_grown i list =
      step_cases (receipt_checks t i list) (after_checkpoint t i list) t (TableGrown t)
      (receives_grown i list (after_checkpoint t i list) (checkpoint_receives t i list)) (table_grown t)

-- ---- where a step moves a message
-- The message at position k is at position n after the step.
abbrev pub MovedTo : Table → Step → ℕ → ℕ → Type 0
MovedTo t s k n = moved t s k ≡ at_position n

pub same_position : (k n : ℕ) → at_position k ≡ at_position n → k ≡ n
same_position k n e = cc

-- What a step that is no rollback does: it loses nothing, and moves nothing.
pub record LosesNothing (t : Table) (s : Step) : Type 0 where
  pub grown : TableGrown t (step t s)
  pub checkpoints-stay : (i c : ℕ) → StepKeeps t s i c
  pub messages-stay : (k : ℕ) → MovedTo t s k k

pub stayed_at : {t : Table} {s : Step} {k n : ℕ} → LosesNothing t s → MovedTo t s k n → k ≡ n
stayed_at {k = k} {n = n} x e = same_position k n (sym (x.messages-stay k) ∙ e)

-- what holds of each such step, and of a rollback, holds of every step
pub by_step : (t : Table) (Q : Step → Type 0) → ((s : Step) → LosesNothing t s → Q s) → Q rollback → (s : Step) → Q s
unfolding StepKeeps moved
by_step t Q other rolled (send j i) = other _ (record { grown = send_grown t j i; checkpoints-stay = λ p c. tt; messages-stay = λ k. refl })
by_step t Q other rolled (receive i list) = other _ (record { grown = receipt_grown t i list; checkpoints-stay = λ p c. tt; messages-stay = λ k. refl })
by_step t Q other rolled (checkpoint i list) = other _ (record { grown = checkpoint_grown t i list; checkpoints-stay = λ p c. tt; messages-stay = λ k. refl })
by_step t Q other rolled rollback = rolled

-- what a rollback keeps, and where it moves a message that stays
module _ (t : Table) where
  pub rollback_keeps : (i c : ℕ) → StepKeeps t rollback i c ↔ (c ≤ as_line (recovery_line t) i)
  unfolding StepKeeps
  rollback_keeps i c = (λ keeps. omega arith, λ low. omega arith)

  pub rolled_place : (k : ℕ) → stays (recovery_line t) (message_of t k) ≡ true
      → MovedTo t rollback k (length (remaining (recovery_line t) (take k t.messages)))
  unfolding moved
  rolled_place k e = rw e

  rolled_gone : (k : ℕ) → stays (recovery_line t) (message_of t k) ≡ false → moved t rollback k ≡ gone
  unfolding moved
  rolled_gone k e = rw e

-- a checkpoint that a step keeps is one of the table after it
pub step_keeps_count : (t : Table) (s : Step) (i c : ℕ) → c < count_of t i → StepKeeps t s i c → c < count_of (step t s) i
unfolding step
step_keeps_count t s i c b =
    by_step t (λ s. StepKeeps t s i c → c < count_of (step t s) i) (λ s x _. omega (arith, x.grown.counts_grow i))
    (λ keeps. omega (arith, (rollback_keeps t i c).0 keeps, rollback_count t i (known_process t i c b))) s

-- a rollback moves a message that stays to the number of those before it that stay
pub record RolledTo (t : Table) (k n : ℕ) : Type 0 where
  pub stayed : stays (recovery_line t) (message_of t k) ≡ true
  pub position : length (remaining (recovery_line t) (take k t.messages)) ≡ n

pub rolled_to : (t : Table) (k n : ℕ) → MovedTo t rollback k n → RolledTo t k n
rolled_to t k n e = go (stays (recovery_line t) (message_of t k)) refl
  where
    go : (b : Bool) → stays (recovery_line t) (message_of t k) ≡ b → RolledTo t k n
    go true h = record { stayed = h; position = same_position _ n (sym (rolled_place t k h) ∙ e) }
    go false h =
        let none : moved t rollback k ≡ gone = rolled_gone t k h in
        let z : ◌≡◌ {A = ℕ} 0 1 = cc in
        absurd (omega arith)

-- a message that a step leaves in the table
module _ (t : Table) where
  pub moved_inside : (s : Step) (k n : ℕ) → k < message_count t → MovedTo t s k n → n < message_count (step t s)
  unfolding step
  moved_inside s k n l =
      by_step t (λ s. MovedTo t s k n → n < message_count (step t s)) (λ s x e. omega (arith, stayed_at x e, x.grown.messages_grow))
      (λ e.
      let to = rolled_to t k n e in
      subst (λ (x : ℕ). x < message_count (after_rollback t)) to.position (rollback_place t k l to.stayed)) s

  pub rolled_message : (k n : ℕ) → k < message_count t → RolledTo t k n → message_of (step t rollback) n ≡ put_back (recovery_line t) (message_of t k)
  unfolding step
  rolled_message k n l to = ap (message_of (after_rollback t)) (sym to.position) ∙ rollback_message t k l to.stayed

  pub moved_same : (s : Step) (k n : ℕ) → k < message_count t → MovedTo t s k n → SameMessage (message_of t k) (message_of (step t s) n)
  moved_same s k n l =
      by_step t (λ s. MovedTo t s k n → SameMessage (message_of t k) (message_of (step t s) n))
      (λ s x e. subst (λ (a : ℕ). SameMessage (message_of t k) (message_of (step t s) a)) (stayed_at x e) (x.grown.messages_go_on k l).same)
      (λ e.
      let m = message_of t k in
      let line = recovery_line t in
      rw (rolled_message k n l (rolled_to t k n e), put_back_sender line m, put_back_sent line m, put_back_receiver line m)) s

  pub moved_order : (s : Step) (a b a' b' : ℕ) → a < b → b < message_count t → MovedTo t s a a' → MovedTo t s b b' → a' < b'
  moved_order s a b a' b' h l =
      by_step t (λ s. MovedTo t s a a' → MovedTo t s b b' → a' < b') (λ s x e f. omega (arith, stayed_at x e, stayed_at x f))
      (λ e f.
      let to = rolled_to t a a' e in
      omega (arith, to.position, (rolled_to t b b' f).position, rollback_order t a (omega arith) to.stayed b h)) s

-- ---- a future, one step at a time
pub gone_stays : (t : Table) (future : Future) → place_of t future gone ≡ gone
unfolding place_of
gone_stays t [] = refl
gone_stays t (s ∷ rest) = refl

pub followed_here : (t : Table) (k n : ℕ) → FollowedTo t [] k n → k ≡ n
unfolding FollowedTo place_of
followed_here t k n e = same_position k n e

-- a message that is still there at the end is there after the first step
pub followed_first : (t : Table) (s : Step) (rest : Future) (k k' : ℕ) → FollowedTo t (s ∷ rest) k k'
    → (n : ℕ) × MovedTo t s k n × FollowedTo (step t s) rest n k'
unfolding FollowedTo place_of
followed_first t s rest k k' e = go (moved t s k) refl e
  where
    go : (place : Place) → moved t s k ≡ place → place_of (step t s) rest place ≡ at_position k'
        → (n : ℕ) × MovedTo t s k n × (place_of (step t s) rest (at_position n) ≡ at_position k')
    go (at_position n) m f = (n, m, f)
    go gone m f =
        let gone-there : place_of (step t s) rest gone ≡ gone = gone_stays (step t s) rest in
        let z : ◌≡◌ {A = ℕ} 0 1 = cc in
        absurd (omega arith)

-- ---- what is still there
pub still_there_count : (t : Table) (future : Future) (i c : ℕ) → c < count_of t i → StillThere t future i c → c < count_of (end_of t future) i
unfolding StillThere end_of
still_there_count t [] i c b still = b
still_there_count t (s ∷ rest) i c b still = still_there_count (step t s) rest i c (step_keeps_count t s i c b still.0) still.1

pub followed_in : (t : Table) (future : Future) (k k' : ℕ) → k < message_count t → FollowedTo t future k k'
    → (k' < message_count (end_of t future)) × SameMessage (message_of t k) (message_of (end_of t future) k')
unfolding end_of
followed_in t [] k k' l e = subst (λ (n : ℕ). (n < message_count t) × SameMessage (message_of t k) (message_of t n)) (followed_here t k k' e) (l, refl)
followed_in t (s ∷ rest) k k' l e =
    let first = followed_first t s rest k k' e in
    let later = followed_in (step t s) rest first.0 k' (moved_inside t s k first.0 l first.1) first.2 in
    (later.0, later.1 ∙ moved_same t s k first.0 l first.1)

pub followed_order : (t : Table) (future : Future) (a b a' b' : ℕ) → a < b → b < message_count t → FollowedTo t future a a'
    → FollowedTo t future b b' → a' < b'
followed_order t [] a b a' b' h l e f = omega (arith, followed_here t a a' e, followed_here t b b' f)
followed_order t (s ∷ rest) a b a' b' h l e f =
    let x = followed_first t s rest a a' e in
    let y = followed_first t s rest b b' f in
    followed_order (step t s) rest x.0 y.0 a' b' (moved_order t s a b x.0 y.0 h l x.1 y.1)
    (moved_inside t s b y.0 l y.1) x.2 y.2

-- ---- the order of a sender's messages
pub end_in_order : (t : Table) → WellFormed t → SentInOrder t → (future : Future) → SentInOrder (end_of t future)
unfolding end_of
end_in_order t w o [] = o
end_in_order t w o (s ∷ rest) = end_in_order (step t s) (step_well_formed t w s) (step_in_order t w o s) rest

-- a run from its beginning: some checkpoints of each process, and no message yet
pub run_in_order : (counts : List ℕ) → WellFormed (table_of counts []) → (future : Future) → SentInOrder (end_of (table_of counts []) future)
run_in_order counts w = end_in_order (table_of counts []) w (nothing_sent counts)

-- ---- the empty future
pub needs_checkpoint_now : (t : Table) (i c : ℕ) → NeedsCheckpoint t [] i c ↔ ((c < count_of t i) × (as_line (recovery_line t) i ≡ c))
unfolding StillThere end_of
needs_checkpoint_now t i c = (λ n. (n.a_checkpoint, n.on_the_line), λ h. record { a_checkpoint = h.0; still_there = tt; on_the_line = h.1 })

pub needs_message_now : (t : Table) (k : ℕ)
    → NeedsMessage t [] k
    ↔ ((k < message_count t) × ((message_of t k).sent < as_line (recovery_line t) (message_of t k).sender)
    × (((message_of t k).received ≡ 0) ⊎ (as_line (recovery_line t) (message_of t k).receiver < (message_of t k).received)))
unfolding FollowedTo place_of end_of
needs_message_now t k = (
  λ n.
      let here = followed_here t k n.position n.still_there in
      (n.a_message, rw here n.sent_before, rw here n.not_received),
  λ h. record { a_message = h.0; position = k; still_there = refl; sent_before = h.1; not_received = h.2 },
)

-- ---- 'still there', said of the whole list
-- what is still there was kept by each rollback
line_kept : (t : Table) (front rest : Future) (i c : ℕ) → StillThere t (front ++ (rollback ∷ rest)) i c
    → NotBelow i c (as_line (recovery_line (end_of t front)))
unfolding StillThere end_of
line_kept t [] rest i c still = (rollback_keeps t i c).0 still.0
line_kept t (s ∷ front) rest i c still = line_kept (step t s) front rest i c still.1

line_sent : (t : Table) (front rest : Future) (k k' : ℕ) → k < message_count t → FollowedTo t (front ++ (rollback ∷ rest)) k k'
    → SentBefore (message_of t k) (as_line (recovery_line (end_of t front)))
unfolding end_of
line_sent t [] rest k k' l e =
    stays_sent (recovery_line t) (message_of t k) (rolled_to t k _ (followed_first t rollback rest k k' e).1).stayed
line_sent t (s ∷ front) rest k k' l e =
    let first = followed_first t s (front ++ (rollback ∷ rest)) k k' e in
    subst (λ (m : Message). SentBefore m (as_line (recovery_line (end_of (step t s) front)))) (moved_same t s k first.0 l first.1)
    (line_sent (step t s) front rest first.0 k' (moved_inside t s k first.0 l first.1) first.2)

-- and what each rollback keeps is still there
kept_there : (t : Table) (future : Future) (i c : ℕ) → EachLine t future (NotBelow i c) → StillThere t future i c
unfolding StillThere EachLine end_of
kept_there t [] i c each = tt
kept_there t (s ∷ rest) i c each = (
  by_step t (λ s. EachLine t (s ∷ rest) (NotBelow i c) → StepKeeps t s i c) (λ s x _. x.checkpoints-stay i c)
      (λ each. (rollback_keeps t i c).1 (each [] rest refl)) s each,
  kept_there (step t s) rest i c (λ front back e. each (s ∷ front) back (ap (λ (x : Future). s ∷ x) e)),
)

rolled_sent : (t : Table) (k : ℕ) → SentBefore (message_of t k) (as_line (recovery_line t)) → (n : ℕ) × MovedTo t rollback k n
unfolding stays
rolled_sent t k h = (_, rolled_place t k (lt-ltb (message_of t k).sent (as_line (recovery_line t) (message_of t k).sender) h))

sent_there : (t : Table) (future : Future) (k : ℕ) → k < message_count t → EachLine t future (SentBefore (message_of t k))
    → (k' : ℕ) × FollowedTo t future k k'
unfolding FollowedTo place_of EachLine end_of
sent_there t [] k l each = (k, refl)
sent_there t (s ∷ rest) k l each =
    let first = by_step t (λ s. EachLine t (s ∷ rest) (SentBefore (message_of t k)) → (n : ℕ) × MovedTo t s k n) (λ s x _. (k, x.messages-stay k))
    (λ each. rolled_sent t k (each [] rest refl)) s each in
    let there = sent_there (step t s) rest first.0 (moved_inside t s k first.0 l first.1)
    (λ front back e.
    subst⁻¹ (λ (m : Message). SentBefore m (as_line (recovery_line (end_of (step t s) front)))) (moved_same t s k first.0 l first.1)
    (each (s ∷ front) back (ap (λ (x : Future). s ∷ x) e))) in
    (there.0, subst⁻¹ (λ (place : Place). place_of (step t s) rest place ≡ at_position there.0) first.1 there.1)

pub survival_holds : (t : Table) → Survival t
unfolding StillThere FollowedTo place_of EachLine end_of
survival_holds t = record {
  checkpoints = λ future i c.
      (λ still front rest e. line_kept t front rest i c (subst (λ (x : Future). StillThere t x i c) e still), kept_there t future i c);
  checkpoints_in = still_there_count t;
  messages = λ future k l.
      (λ h front rest e. line_sent t front rest k h.0 l (subst (λ (x : Future). FollowedTo t x k h.0) e h.1), sent_there t future k l);
  messages_within = followed_in t;
  messages_order = followed_order t;
  rolled_checkpoint = λ i c. (λ still. (rollback_keeps t i c).0 still.0, λ low. ((rollback_keeps t i c).1 low, tt));
  rolled_message = λ k l. (λ there. line_sent t [] [] k there.0 l there.1, rolled_sent t k);
  rolled_receipt = λ k n l e.
      let is = rolled_message t k n l (rolled_to t k n e) in
      (λ low. is ∙ put_back-before (recovery_line t) (message_of t k) low, λ high. is ∙ put_back_after (recovery_line t) (message_of t k) high);
  nothing_lost = by_step t _ (λ s x _. (λ i c. (x.checkpoints-stay i c, tt), x.messages-stay)) (λ no. absurd (no refl));
}
