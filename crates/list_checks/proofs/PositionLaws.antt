-- The list of a receipt or a checkpoint, as chains go over it.
--     rising_found                              whether it rises, as neighbours compared say
--     any-places                                a test over a list, by its places
--     waiting_found                             a chain that looks for a position that does not wait
--     bad_positions                             the entries of a table, and its messages
-- Assumes nothing.
use mathlib.Core.Bool.{Bool, true, false, not, ◌&&◌, ◌||◌}
use mathlib.Core.List.{List, [], ◌∷◌}
use mathlib.Core.Path.{◌≡◌, refl, sym, ap, ◌∙◌}
use Prim.Native.Nat.{ℕ, ◌+◌, ◌-◌, ◌*◌, ◌<◌}
use native.Mathlib.Decide.{dec_lt}
use native.Mathlib.Omega.{arith}
use borrow.Author.Tests.{le-leb, lt-leb, ltb-false, ltb-true}
use lib.Dec.{eqb, leb, ltb}
use lib.ListN.{length, get_or}
use Rattle.list_checks.specs.Entries.{bad_entry, entry_waits}
use Rattle.std.specs.List.{IsAllAdjacentAnswer, list_any}
use Rattle.steps.proofs.OrderLaws.{neighbours_rise}
use Rattle.steps.proofs.StepLaws.{rising}
use Rattle.steps.specs.Steps.{bad_position, not_rising, waits_for}
use Rattle.tables.proofs.ListLaws.{any-tabulate, tabulate-get_or}
use Rattle.tables.proofs.ReadLaws.{ReadMessages, received_is, receiver_is}
use Rattle.tables.proofs.TurnLaws.{waits_read}
use Rattle.tables.specs.Format.{checkpoint_at, decode, process_at}
use Rattle.tables.specs.Lists.{any, any_below}
use Rattle.tables.specs.Numbers.{u16_at}
use Rattle.tables.specs.Table.{Table, message_count, message_of}

-- a test that is not false
else_true : (b : Bool) → (b ≡ false → ⊥) → b ≡ true
else_true true h = refl
else_true false h = absurd (h refl)

pub any-places : (test : ℕ → Bool) (list : List ℕ) → any test list ≡ any_below (length list) (λ a. test (get_or list a 0))
any-places test list = ap (any test) (sym (tabulate-get_or list 0)) ∙ any-tabulate test (length list) (λ a. get_or list a 0)

-- ---- neighbours that rise, each pair as it was compared
pub rising_found : (list : List ℕ) (sorted : Bool) → IsAllAdjacentAnswer (λ x y r. r ≡ ltb x y) list sorted → not sorted ≡ not_rising list
rising_found list true h =
    sym
    (neighbours_rise list
    (λ b pos l.
    let place : b - 1 + 1 ≡ b = omega arith in
    rw place at (ltb-true _ _ (sym (h (b - 1) 0 (omega arith))))))
rising_found list false h =
    sym
    (else_true (not_rising list)
    (λ e. omega (arith, rising list e h.0 (h.0 + 1) (omega arith) h.1, ltb-false _ _ (sym (h.2 0)))))

-- ---- a position that does not wait
pub waiting_found : (receipts : List ℕ) (m i : ℕ) (list : List ℕ)
    → list_any (λ k. leb m k || not (entry_waits receipts i k)) list ≡ any (bad_entry receipts m i) list
unfolding any bad_entry
waiting_found receipts m i [] = refl
waiting_found receipts m i (k ∷ rest) = ap (λ (r : Bool). bad_entry receipts m i k || r) (waiting_found receipts m i rest)

-- ---- the entries of a table
-- an entry as it was read
entry_is : (receipts : List ℕ) (m i k : ℕ) {r s : ℕ} → k < m → r ≡ u16_at receipts (4 * k) → s ≡ u16_at receipts (4 * k + 2)
    → bad_entry receipts m i k ≡ not (eqb r i && eqb s 0)
unfolding bad_entry entry_waits process_at checkpoint_at
entry_is receipts m i k there receiver received = rw (lt-leb m k there, ← receiver, ← received)

module _ {table : List ℕ} {m : ℕ} {sends receipts : List ℕ} (read : ReadMessages table m sends receipts) where
  bad_is : (i k : ℕ) → bad_entry receipts m i k ≡ bad_position (decode table) i k
  unfolding bad_entry bad_position waits_for
  bad_is i k = go (dec_lt k m)
    where
      t : Table
      t = decode table

      go : Dec (k < m) → bad_entry receipts m i k ≡ bad_position t i k
      go (yes l) =
          entry_is receipts m i k l refl refl
          ∙ rw (lt-leb (message_count t) k (omega (arith, read.m_is)), receiver_is read l refl, ← waits_read (message_of t k) (received_is read l refl))
      go (no l) = rw (le-leb m k (omega arith), le-leb (message_count t) k (omega (arith, read.m_is)))

  pub bad_positions : (i : ℕ) (list : List ℕ) → any (bad_entry receipts m i) list ≡ any (bad_position (decode table) i) list
  bad_positions i list = ap (λ (test : ℕ → Bool). any test list) (λ x k. bad_is i k x)
