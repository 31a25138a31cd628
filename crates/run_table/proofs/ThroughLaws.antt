-- The loop that goes through an accepted table: no check of messages catches, and none is out of turn behind the one before it in its channel.
--     message_known                          where no check catches a message, both its processes are known
--     Turned, turned_none, turned_more       the loop's invariant: how it begins and goes on
--     turned_fault, turned_broken, turned_all    where it leaves
-- Assumes nothing.
use mathlib.Core.Bool.{Bool, true, false, cond}
use mathlib.Core.List.{List}
use mathlib.Core.Path.{◌≡◌, refl, subst, sym, ◌∙◌}
use Prim.Native.Nat.{ℕ, suc, ◌+◌, ◌<◌, ◌≤◌, zero-le}
use native.Mathlib.Nat.{le_antisymm}
use native.Mathlib.Omega.{arith}
use borrow.Author.Count.{below_more, below_none}
use borrow.Author.Tests.{leb-false}
use lib.Dec.{leb}
use lib.ListN.{replicate}
use Rattle.channels.proofs.ChannelLaws.{lasts_none, one_number}
use Rattle.channels.proofs.NeighbourLaws.{neighbours_enough}
use Rattle.channels.specs.Neighbours.{Lasts, behind_neighbour, channel_at}
use Rattle.run_table.proofs.FaultLaws.{faulted, nothing_below, place_next, place_within, unfaulted}
use Rattle.run_table.specs.EntryChecks.{FirstMessage, MessageCheck, Sized, checks_at, checks_below, first_place, message_checks}
use Rattle.run_table.specs.EntryChecks.{message_refusals, no_fault, unknown_at}
use Rattle.std.proofs.Common.{Option, slice_get}
use Rattle.std.specs.Option.{is_some}
use Rattle.tables.proofs.ListLaws.{any_below_found, any_below_more}
use Rattle.tables.specs.Checks.{broken_below}
use Rattle.tables.specs.Format.{message_at, process_at}
use Rattle.tables.specs.Lists.{any_below}
use Rattle.tables.specs.Parts.{MessageThere}
use Rattle.tables.specs.Table.{Message, most_processes}
use Rattle.tables.specs.declared.refusal.Refusal.{Refusal}

-- the first two of a list of checks catch nothing, where the first that catches stands further back
two_passed : (a b : Bool) (rest : ℕ) → cond a 0 (suc (cond b 0 (suc rest))) ≡ no_fault → (a ≡ false) × (b ≡ false)
two_passed true b rest e = absurd (omega arith)
two_passed false true rest e = absurd (omega arith)
two_passed false false rest e = (refl, refl)

module _ {n m : ℕ} {counts sends receipts : List ℕ} (sized : Sized n m counts sends receipts) where
  abbrev checks : List MessageCheck
  checks = message_checks n counts sends receipts

  abbrev channel : ℕ → ℕ
  channel = channel_at sends receipts

  abbrev message : ℕ → Message
  message = message_at sends receipts

  -- ---- a message that no check catches
  pub message_known : {k : ℕ} → k < m → first_place (checks_at checks k) ≡ no_fault → MessageThere most_processes k sends receipts
  unfolding first_place unknown_at
  message_known {k} l e =
      let (sender, receiver) = two_passed (leb n (process_at sends k)) (leb n (process_at receipts k)) _ e in
      record {
        in_sends = omega (arith, sized.sends_size);
        in_receipts = omega (arith, sized.receipts_size);
        sender_known = omega (arith, sized.few_processes, leb-false n (process_at sends k) sender);
        receiver_known = omega (arith, sized.few_processes, leb-false n (process_at receipts k) receiver);
      }

-- ---- the loop
-- It stands at message k: no check catches one below it, and none below it is out of turn behind its neighbour; it has where the last
-- message of each channel stands.
pub record Turned (n m : ℕ) (counts sends receipts last : List ℕ) (k : ℕ) : Type 0 where
  pub sized : Sized n m counts sends receipts
  pub within : k ≤ m
  pub quiet : no_fault ≡ first_place (checks_below (message_checks n counts sends receipts) k)
  pub known : (q : ℕ) → q < k → MessageThere most_processes q sends receipts
  pub lasts : Lasts (channel_at sends receipts) k last
  pub none : any_below k (behind_neighbour (channel_at sends receipts) (message_at sends receipts)) ≡ false

pub turned_none : {n m : ℕ} {counts sends receipts : List ℕ} → Sized n m counts sends receipts
    → Turned n m counts sends receipts (replicate 1024 0) 0
unfolding any_below
turned_none {n} {counts = counts} {sends} {receipts} sized = record {
  sized = sized;
  within = zero-le;
  quiet = nothing_below
      (message_checks n counts sends receipts);
  known = below_none _;
  lasts = lasts_none;
  none = refl;
}

module _ {n m : ℕ} {counts sends receipts last : List ℕ} {k : ℕ} (w : Turned n m counts sends receipts last k) where
  abbrev Checks : List MessageCheck
  Checks = message_checks n counts sends receipts

  abbrev Channel : ℕ → ℕ
  Channel = channel_at sends receipts

  abbrev At : ℕ → Message
  At = message_at sends receipts

  enough : (j : ℕ) → ((q : ℕ) → q < j → MessageThere most_processes q sends receipts)
      → any_below j (behind_neighbour Channel At) ≡ broken_below j At
  enough j known = neighbours_enough Channel At j (λ q p lq lp. one_number q p (known q lq) (known p lp))

  found : (k < m → first_place (checks_at Checks k) ≡ no_fault → broken_below (k + 1) At ≡ true) → FirstMessage Checks At m k
  found caught = record {
    within = w.within;
    quiet = w.quiet;
    in_turn = sym (enough k w.known) ∙ w.none;
    caught = caught;
  }

  -- none is left
  pub turned_all : m ≤ k → FirstMessage Checks At m m
  turned_all l = subst (λ (j : ℕ). FirstMessage Checks At m j) (le_antisymm w.within l) (found (λ b _. absurd (omega arith)))

  -- the refusal of message k
  module _ (l : k < m) {fault : Option Refusal} (is-fault : fault ≡ slice_get message_refusals (first_place (checks_at Checks k))) where
    pub turned_fault : is_some fault ≡ true → (k < m) × FirstMessage Checks At m k
    turned_fault some = (l, found (λ _ none. absurd (faulted _ is-fault some none)))

    module _ (none : is_some fault ≡ false) where
      quiet-here : first_place (checks_at Checks k) ≡ no_fault
      quiet-here = unfaulted _ is-fault none (place_within (checks_at Checks k))

      pub here : MessageThere most_processes k sends receipts
      here = message_known w.sized l quiet-here

      known_next : (q : ℕ) → q < k + 1 → MessageThere most_processes q sends receipts
      known_next = below_more _ k w.known here

      pub turned_broken : behind_neighbour Channel At k ≡ true → (k < m) × FirstMessage Checks At m k
      turned_broken out =
          (l, found (λ _ _. sym (enough (k + 1) known_next) ∙ any_below_found (behind_neighbour Channel At) (k + 1) k (omega arith) out))

      pub turned_more : behind_neighbour Channel At k ≡ false → {next : List ℕ} → Lasts Channel (k + 1) next
          → Turned n m counts sends receipts next (k + 1)
      turned_more in-turn lasts = record {
        sized = w.sized;
        within = omega arith;
        quiet = omega (arith, w.quiet, quiet-here, place_next Checks k);
        known = known_next;
        lasts = lasts;
        none = any_below_more (behind_neighbour Channel At) k w.none in-turn;
      }
