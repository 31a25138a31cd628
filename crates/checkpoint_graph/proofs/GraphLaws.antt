-- Laws of the checkpoint graph.
--     edge_from, edge_to       an edge of a well formed table goes from a checkpoint to a state: so no edge leads out of a new state
--     leads_to                 so what a state leads to is a state
--     leads_on                 two paths, one after the other
--     leads_carry              what every edge brings from its start to its end, a path does
--     leads_up                 a state leads to every later one of its process
-- Assumes nothing.
use mathlib.Core.Path.{◌≡◌, ap, subst}
use Prim.Native.Nat.{ℕ, zero, suc, ◌+◌, ◌-◌, ◌≤◌, ◌<◌}
use native.Mathlib.Omega.{arith}
use Rattle.checkpoint_graph.specs.Graph.{Edge, Leads, State, StateOf, edge, received, state, then, to_next}
use Rattle.tables.proofs.FormatLaws.{message_in}
use Rattle.tables.specs.Checks.{WellFormed}
use Rattle.tables.specs.Table.{Message, Table, count_of, message_count, message_of, process_count}

-- ---- paths
pub leads_on : {t : Table} {a b c : State} → Leads t a b → Leads t b c → Leads t a c
leads_on l (edge e) = then l e
leads_on l (then m e) = then (leads_on l m) e

-- what every edge brings from its start to its end, and can be gone on from there, a path does
module _ {t : Table} (P Q : State → Type 0) (step : (a b : State) → Edge t a b → P a → Q b) (weaken : (a : State) → Q a → P a) where
  pub leads_carry : {a b : State} → Leads t a b → P a → Q b
  leads_carry (edge e) h = step _ _ e h
  leads_carry (then l e) h = step _ _ e (weaken _ (leads_carry l h))

module _ (t : Table) (p : ℕ) (known : p < process_count t) where
  up_by : (y d : ℕ) → y + suc d ≤ count_of t p → Leads t (state p y) (state p (suc (y + d)))
  up_by y zero l =
      let here : suc y ≡ suc (y + zero) = omega arith in
      subst (λ (n : ℕ). Leads t (state p y) (state p n)) here (edge (to_next p y known (omega arith)))
  up_by y (suc d) l =
      let place : suc (suc (y + d)) ≡ suc (y + suc d) = omega arith in
      subst (λ (n : ℕ). Leads t (state p y) (state p n)) place (then (up_by y d (omega arith)) (to_next p (suc (y + d)) known (omega arith)))

  pub leads_up : (y y' : ℕ) → y < y' → y' ≤ count_of t p → Leads t (state p y) (state p y')
  leads_up y y' l there =
      let place : suc (y + (y' - suc y)) ≡ y' = omega arith in
      subst (λ (n : ℕ). Leads t (state p y) (state p n)) place (up_by y (y' - suc y) (omega arith))

-- ---- states
module _ (t : Table) (w : WellFormed t) where
  pub edge_from : {a b : State} → Edge t a b → a.number < count_of t a.process
  edge_from (to_next p y known there) = there
  edge_from (received k d) = (w.good_messages k (message_in t k d)).sent_below

  pub edge_to : {a b : State} → Edge t a b → StateOf t b
  edge_to (to_next p y known there) = record { known = known; there = there }
  edge_to (received k d) =
      let good = w.good_messages k (message_in t k d) in
      record { known = good.receiver_known; there = good.received-within }

  pub leads_to : {a b : State} → Leads t a b → StateOf t b
  leads_to (edge e) = edge_to e
  leads_to (then l e) = edge_to e
