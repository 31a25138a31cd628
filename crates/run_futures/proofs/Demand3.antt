-- Demand 3, proved. For every well formed table, its channels in turn or not, and so for every accepted one: a checkpoint or message is
-- on the sheet exactly when some finite list of sends, receipts, checkpoints and rollbacks, in any order and without limit, needs it.
--     checkpoint_needed, message_needed    the sheet's test passes just when some future needs the checkpoint or the message
--     demand_3                             so the sheet's lists hold exactly what futures need
--     nothing_off_the_sheet_is_needed      no future needs what is not listed
--     each_entry_has_a_future              every entry is needed by some future
--     no_smaller_sheet_serves              so it stands on every sheet that has all that futures need
--     discarded_stays_discarded            what is off the sheet, and still there after a future, is off the sheet there too
-- Assumes nothing.
use mathlib.Core.Bool.{true}
use mathlib.Core.List.{List}
use mathlib.Core.Logic.Iff
use mathlib.Core.Logic.{◌↔◌}
use mathlib.Core.Path.{◌≡◌}
use Prim.Native.Nat.{ℕ, ◌<◌}
use lib.ListN.{length, get_or}
use Rattle.run_futures.proofs.NeedLaws.{checkpoint-all_back, checkpoint_need_kept, kept_on_held, kept_open, message_all_back, message_need_kept}
use Rattle.run_futures.proofs.NeedLaws.{on_held_kept, open_kept}
use Rattle.keep_sheet.proofs.KeptLaws.{checkpoints_listed, listed_at, messages_listed}
use Rattle.run_futures.proofs.WitnessLaws.{checkpoint-kept_needed, message_kept_needed}
use Rattle.run_futures.specs.Demand3.{Demand3}
use Rattle.tables.specs.Lists.{Listed}
use Rattle.run_futures.specs.Futures.{CheckpointNeeded, FollowedTo, Future, MessageNeeded, NeedsCheckpoint, NeedsMessage, StillThere, end_of}
use Rattle.keep_sheet.specs.Sheet.{Checkpoint, keeps_checkpoint, keeps_message, kept_checkpoints, kept_messages}
use Rattle.tables.specs.Checks.{WellFormed}
use Rattle.tables.specs.Table.{Table, count_of, message_count, message_of}

pub checkpoint_needed : (t : Table) → WellFormed t → (i c : ℕ) → (keeps_checkpoint t i c ≡ true) ↔ CheckpointNeeded t i c
unfolding CheckpointNeeded
checkpoint_needed t w i c = (checkpoint-kept_needed t i c, λ needed. checkpoint_need_kept t w needed.0 i c needed.1)

pub message_needed : (t : Table) → WellFormed t → (k : ℕ) → k < message_count t → (keeps_message t (message_of t k) ≡ true) ↔ MessageNeeded t k
unfolding MessageNeeded
message_needed t w k l = (message_kept_needed t w k l, λ needed. message_need_kept t w needed.0 k needed.1)

pub demand_3 : (t : Table) → WellFormed t → Demand3 t
unfolding MessageNeeded
demand_3 t w = record {
  checkpoints = λ i c. Iff.trans (checkpoints_listed t i c) (checkpoint_needed t w i c);
  messages = λ k. (
    λ h.
        let listed = (messages_listed t k).0 h in
        (message_needed t w k listed.0).0 listed.1,
    λ needed.
        let inside = needed.1.a_message in
        (messages_listed t k).1 (inside, (message_needed t w k inside).1 needed),
  );
}

-- ---- what this means for whoever discards
pub nothing_off_the_sheet_is_needed : (t : Table) → WellFormed t → (future : Future)
    → ((i c : ℕ) → (Listed {A = Checkpoint} (record { process = i; number = c }) (kept_checkpoints t) → ⊥) → NeedsCheckpoint t future i c → ⊥)
    × ((k : ℕ) → (Listed k (kept_messages t) → ⊥) → NeedsMessage t future k → ⊥)
unfolding CheckpointNeeded MessageNeeded
nothing_off_the_sheet_is_needed t w future =
    (λ i c off needs. off (((demand_3 t w).checkpoints i c).1 (future, needs)), λ k off needs. off (((demand_3 t w).messages k).1 (future, needs)))

module _ (t : Table) (w : WellFormed t) where
  entry_needed : (x : Checkpoint) → Listed x (kept_checkpoints t) → CheckpointNeeded t x.process x.number
  entry_needed x h = ((demand_3 t w).checkpoints x.process x.number).0 h

  pub each_entry_has_a_future :
      ((n : ℕ) (d : Checkpoint) → n < length (kept_checkpoints t)
      → CheckpointNeeded t (get_or (kept_checkpoints t) n d).process (get_or (kept_checkpoints t) n d).number)
      × ((n : ℕ) (d : ℕ) → n < length (kept_messages t) → MessageNeeded t (get_or (kept_messages t) n d))
  each_entry_has_a_future = (
    λ n d l. entry_needed (get_or (kept_checkpoints t) n d) (listed_at (kept_checkpoints t) n d l),
    λ n d l. ((demand_3 t w).messages (get_or (kept_messages t) n d)).0 (listed_at (kept_messages t) n d l),
  )

  pub no_smaller_sheet_serves : (checkpoints : List Checkpoint) (messages : List ℕ)
      → ((i c : ℕ) → CheckpointNeeded t i c → Listed {A = Checkpoint} (record { process = i; number = c }) checkpoints)
      → ((k : ℕ) → MessageNeeded t k → Listed k messages)
      → ((x : Checkpoint) → Listed x (kept_checkpoints t) → Listed x checkpoints) × ((k : ℕ) → Listed k (kept_messages t) → Listed k messages)
  no_smaller_sheet_serves checkpoints messages all-checkpoints all-messages =
      (λ x h. all-checkpoints x.process x.number (entry_needed x h), λ k h. all-messages k (((demand_3 t w).messages k).0 h))

-- So a log or a checkpoint may be discarded once and for all: no later sheet asks for it again.
pub discarded_stays_discarded : (t : Table) → WellFormed t → (future : Future)
    → ((i c : ℕ) → c < count_of t i → StillThere t future i c → keeps_checkpoint (end_of t future) i c ≡ true → keeps_checkpoint t i c ≡ true)
    × ((k k' : ℕ) → k < message_count t → FollowedTo t future k k' → keeps_message (end_of t future) (message_of (end_of t future) k') ≡ true
    → keeps_message t (message_of t k) ≡ true)
discarded_stays_discarded t w future = (
  λ i c b still kept. on_held_kept t w i c b (checkpoint-all_back t w future i c b still (kept_on_held (end_of t future) i c kept)),
  λ k k' l followed kept.
      open_kept t w k l (message_all_back t w future k k' l followed (kept_open (end_of t future) (message_of (end_of t future) k') kept)),
)
