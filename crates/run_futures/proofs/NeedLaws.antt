-- What lies on a held line, or is open over one, did so before every step. So whatever a future needs lies on a held line of the
-- first table, or is open over one, and is on its sheet.
--     on_held_kept, kept_on_held          a checkpoint lies on a held line just when the sheet keeps it
--     open_kept, kept_open                a message is open over a held line just when the sheet keeps it
--     checkpoint_back, message_back       over one step
--     checkpoint-all_back, message_all_back    over a future
--     checkpoint_need_kept, message_need_kept  what a future needs is kept
-- Assumes nothing.
use mathlib.Core.Bool.{true}
use mathlib.Core.List.{[], ◌∷◌}
use mathlib.Core.Logic.{◌⊎◌, inl, inr}
use mathlib.Core.Path.{◌≡◌, ◌∙◌, subst, subst⁻¹}
use Prim.Native.Nat.{ℕ, ◌≤◌, ◌<◌, min}
use native.Mathlib.Decide.{dec_lt, ℕ_discrete}
use native.Mathlib.Omega.{arith}
use Rattle.consistency.specs.Ceilings.{holder_line, recovery_line, single}
use Rattle.consistency.specs.Lines.{AtOrBelow, Line, as_line}
use Rattle.run_futures.proofs.FutureLaws.{TableGrown, MovedTo, by_step, followed_first, followed_here, moved_inside, rolled_message, rolled_to, stayed_at}
use Rattle.run_futures.proofs.FutureLaws.{rollback_keeps, step_keeps_count}
use Rattle.run_futures.proofs.HeldLaws.{Held, held_above, held_attained, held_before, set_held}
use Rattle.keep_sheet.proofs.KeptLaws.{Across, HolderWith, keeps_checkpoint_lem, keeps_message_lem}
use Rattle.steps.proofs.StepLaws.{put_back-before, recovery_latest, rollback_line, stays_sent, step_well_formed}
use Rattle.run_futures.specs.Futures.{FollowedTo, Future, NeedsCheckpoint, NeedsMessage, StepKeeps, StillThere, end_of}
use Rattle.keep_sheet.specs.Sheet.{keeps_checkpoint, keeps_message}
use Rattle.steps.specs.Steps.{Step, after_rollback, put_back, step}
use Rattle.tables.specs.Checks.{WellFormed}
use Rattle.tables.specs.Table.{Message, Table, count_of, message_count, message_of}

-- Checkpoint c of process i lies on a held line.
pub record OnHeld (t : Table) (i c : ℕ) : Type 0 where
  pub line : Line
  pub held : Held t line
  pub on_line : line i ≡ c

-- A message crosses a held line.
pub record AcrossHeld (t : Table) (m : Message) : Type 0 where
  pub line : Line
  pub held : Held t line
  pub across : Across m line

-- A message is open: it is undelivered, or it crosses a held line.
abbrev pub Open : Table → Message → Type 0
Open t m = (m.received ≡ 0) ⊎ AcrossHeld t m

pub recovery_held : (t : Table) → Held t (as_line (recovery_line t))
unfolding recovery_line
recovery_held t = set_held t (λ p. true)

holder_held : (t : Table) (k : ℕ) → Held t (as_line (holder_line t k))
unfolding holder_line
holder_held t k = set_held t (single k)

-- ---- what the sheet keeps
module _ (t : Table) where
  pub kept_on_held : (i c : ℕ) → keeps_checkpoint t i c ≡ true → OnHeld t i c
  kept_on_held i c e =
      let holder = ((keeps_checkpoint_lem t i c).0 e).1 in
      record { line = as_line (holder_line t holder.0); held = holder_held t holder.0; on_line = holder.2 }

  pub kept_open : (m : Message) → keeps_message t m ≡ true → Open t m
  kept_open m e = go ((keeps_message_lem t m).0 e)
    where
      go : (m.received ≡ 0) ⊎ HolderWith t (λ l. Across m (as_line l)) → Open t m
      go (inl waits) = inl waits
      go (inr h) = inr (record { line = as_line (holder_line t h.0); held = holder_held t h.0; across = h.2 })

  module _ (w : WellFormed t) where
    pub on_held_kept : (i c : ℕ) → c < count_of t i → OnHeld t i c → keeps_checkpoint t i c ≡ true
    on_held_kept i c b on =
        let one = held_attained t on.line on.held w i (omega (arith, on.on_line)) in
        (keeps_checkpoint_lem t i c).1 (b, (one.0, one.1, one.2 ∙ on.on_line))

    -- it was received at the count of its receiver at the latest, so the line there is below the count, and is some single holder's
    pub open_kept : (k : ℕ) → k < message_count t → Open t (message_of t k) → keeps_message t (message_of t k) ≡ true
    open_kept k l (inl waits) = (keeps_message_lem t (message_of t k)).1 (inl waits)
    open_kept k l (inr a) =
        let m = message_of t k in
        let one = held_attained t a.line a.held w m.receiver (omega (arith, a.across.1, (w.good_messages k l).received-within)) in
        (keeps_message_lem t m).1 (inr (one.0, one.1, (omega (arith, a.across.0, one.3 m.sender), omega (arith, a.across.1, one.2))))

-- ---- before a send, a receipt or a checkpoint
module _ (t t' : Table) (w : WellFormed t) (g : TableGrown t t') where
  grown_checkpoint : (i c : ℕ) → c < count_of t i → OnHeld t' i c → OnHeld t i c
  grown_checkpoint i c b on = record {
    line = λ p. min (on.line p) (count_of t p);
    held = held_before t t' w g on.line on.held;
    on_line = omega (arith, on.on_line);
  }

  grown_message : (k : ℕ) → k < message_count t → Open t' (message_of t' k) → Open t (message_of t k)
  grown_message k l open' = go (ℕ_discrete (message_of t k).received 0)
    where
      same : Open t' (message_of t k) → ((message_of t k).received ≡ 0 → ⊥) → Open t (message_of t k)
      same (inl waits) d = inl waits
      same (inr a) d = inr (record {
        line = λ p. min (a.line p) (count_of t p);
        held = held_before t t' w g a.line a.held;
        across = (omega (arith, a.across.0, (w.good_messages k l).sent_below), omega (arith, a.across.1));
      })

      go : Dec ((message_of t k).received ≡ 0) → Open t (message_of t k)
      go (yes waits) = inl waits
      go (no d) = same (subst (Open t') ((g.messages_go_on k l).received-stay (omega arith)) open') d

-- ---- before a rollback
module _ (t : Table) where
  -- the recovery line is one of checkpoints that are still there, and consistent, so no held line is lower
  above_recovery : (l : Line) → Held (after_rollback t) l → AtOrBelow (as_line (recovery_line t)) l
  above_recovery l h p =
      let after = recovery_latest (after_rollback t) in
      omega (arith, rollback_line t p, held_above (after_rollback t) l (as_line (recovery_line (after_rollback t))) h after.consistent after.under p)

  rolled_checkpoint : (i c : ℕ) → c ≤ as_line (recovery_line t) i → OnHeld (after_rollback t) i c → OnHeld t i c
  rolled_checkpoint i c keeps on = record {
    line = as_line (recovery_line t);
    held = recovery_held t;
    on_line = omega (arith, on.on_line, above_recovery on.line on.held i);
  }

  -- one that is put back crosses the recovery line; any other was received at or before it, and crosses no held line
  rolled_open : (m : Message) → m.sent < as_line (recovery_line t) m.sender → Open (after_rollback t) (put_back (recovery_line t) m) → Open t m
  rolled_open m sent_before open' = go (dec_lt (as_line (recovery_line t) m.receiver) m.received)
    where
      received : m.received ≤ as_line (recovery_line t) m.receiver → Open (after_rollback t) m → Open t m
      received b (inl waits) = inl waits
      received b (inr a) = absurd (omega (arith, a.across.1, above_recovery a.line a.held m.receiver))

      go : Dec (as_line (recovery_line t) m.receiver < m.received) → Open t m
      go (yes b) = inr (record { line = as_line (recovery_line t); held = recovery_held t; across = (sent_before, b) })
      go (no b) = received (omega arith) (subst (Open (after_rollback t)) (put_back-before (recovery_line t) m (omega arith)) open')

-- ---- before any step
module _ (t : Table) (w : WellFormed t) where
  pub checkpoint_back : (s : Step) (i c : ℕ) → c < count_of t i → StepKeeps t s i c → OnHeld (step t s) i c → OnHeld t i c
  unfolding step
  checkpoint_back s i c b =
      by_step t (λ s. StepKeeps t s i c → OnHeld (step t s) i c → OnHeld t i c)
      (λ s x _ on. grown_checkpoint t (step t s) w x.grown i c b on)
      (λ keeps. rolled_checkpoint t i c ((rollback_keeps t i c).0 keeps)) s

  pub message_back : (s : Step) (k n : ℕ) → k < message_count t → MovedTo t s k n → Open (step t s) (message_of (step t s) n)
      → Open t (message_of t k)
  unfolding step
  message_back s k n l =
      by_step t (λ s. MovedTo t s k n → Open (step t s) (message_of (step t s) n) → Open t (message_of t k))
      (λ s x e open'.
      grown_message t (step t s) w x.grown k l (subst⁻¹ (λ (a : ℕ). Open (step t s) (message_of (step t s) a)) (stayed_at x e) open'))
      (λ e open'.
      let to = rolled_to t k n e in
      rolled_open t (message_of t k) (stays_sent (recovery_line t) (message_of t k) to.stayed)
      (subst (Open (after_rollback t)) (rolled_message t k n l to) open')) s

-- ---- before any future
pub checkpoint-all_back : (t : Table) → WellFormed t → (future : Future) (i c : ℕ) → c < count_of t i → StillThere t future i c
    → OnHeld (end_of t future) i c → OnHeld t i c
unfolding StillThere end_of
checkpoint-all_back t w [] i c b still on = on
checkpoint-all_back t w (s ∷ rest) i c b still on =
    checkpoint_back t w s i c b still.0
    (checkpoint-all_back (step t s) (step_well_formed t w s) rest i c (step_keeps_count t s i c b still.0) still.1 on)

pub message_all_back : (t : Table) → WellFormed t → (future : Future) (k k' : ℕ) → k < message_count t → FollowedTo t future k k'
    → Open (end_of t future) (message_of (end_of t future) k') → Open t (message_of t k)
unfolding end_of
message_all_back t w [] k k' l e open' = subst⁻¹ (λ (n : ℕ). Open t (message_of t n)) (followed_here t k k' e) open'
message_all_back t w (s ∷ rest) k k' l e open' =
    let first = followed_first t s rest k k' e in
    message_back t w s k first.0 l first.1
    (message_all_back (step t s) (step_well_formed t w s) rest first.0 k' (moved_inside t s k first.0 l first.1) first.2 open')

-- what a future needs lies on the recovery line of its end, or is open over it
module _ (t : Table) (w : WellFormed t) (future : Future) where
  pub checkpoint_need_kept : (i c : ℕ) → NeedsCheckpoint t future i c → keeps_checkpoint t i c ≡ true
  checkpoint_need_kept i c needs =
      on_held_kept t w i c needs.a_checkpoint
      (checkpoint-all_back t w future i c needs.a_checkpoint needs.still_there
      (record { line = as_line (recovery_line (end_of t future)); held = recovery_held (end_of t future); on_line = needs.on_the_line }))

  pub message_need_kept : (k : ℕ) → NeedsMessage t future k → keeps_message t (message_of t k) ≡ true
  message_need_kept k needs =
      open_kept t w k needs.a_message
      (message_all_back t w future k needs.position needs.a_message needs.still_there (go needs.not_received))
    where
      E : Table
      E = end_of t future

      m : Message
      m = message_of E needs.position

      go : (m.received ≡ 0) ⊎ (as_line (recovery_line E) m.receiver < m.received) → Open E m
      go (inl waits) = inl waits
      go (inr late) = inr (record { line = as_line (recovery_line E); held = recovery_held E; across = (needs.sent_before, late) })
