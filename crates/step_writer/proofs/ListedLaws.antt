-- The receipts that a list sets.
--     messages_set, messages-set        messages that are received one after another: those of the table after a receipt
--     receipts_set_lem                     the bytes of their receipts, set one after another
--     SettingReceipts, setting_none, setting_more, setting_all     a loop that sets them
--     ListedPut, listed_put            a part that is copied, and set in its place
--     positions_below                  the positions of one that can be taken
-- Assumes nothing.
use mathlib.Core.Bool.{Bool, true, false, cond, ◌||◌}
use mathlib.Core.List.{List, [], ◌∷◌, ◌++◌}
use mathlib.Core.Path.{◌≡◌, refl, sym, ap, ap₂, ◌∙◌}
use Prim.Native.Nat.{ℕ, zero, suc, ◌+◌, ◌*◌, ◌<◌, ◌≤◌, zero-le, suc-le-suc, ◌-◌}
use native.Mathlib.Numerals.{add-one}
use native.Mathlib.Omega.{arith}
use borrow.Author.Tests.{eqb-false, eqb-true}
use lib.Dec.{eqb}
use lib.ListN.{length, get_or, set, drop, drop_of_length-le, length-set, take}
use lib.Seq.{drop-cons, ext_get_or, get_or-set_other, get_or-set_same}
use Rattle.number_writer.proofs.PlaceLaws.{number-set, part_anew, part_there}
use Rattle.steps.proofs.StepLaws.{good_position, receipt_receives, receives_message, receives_messages}
use Rattle.steps.specs.Steps.{after_receipt, bad_position, received_at}
use Rattle.step_writer.specs.Receipts.{CanReceive, receipts_set}
use Rattle.tables.proofs.FormatLaws.{length_entries}
use Rattle.tables.proofs.ListLaws.{none_of}
use Rattle.tables.specs.Format.{decode, entries_of, receipts_of}
use Rattle.tables.specs.Lists.{any}
use Rattle.tables.specs.Numbers.{put_at, u16_at, u16_bytes, u16s}
use Rattle.tables.specs.Table.{Message, Table, count_of, message_count, message_of, no_message, with_receipt}
use Rattle.number_writer.proofs.WriteLaws.{numbers_size}
use Rattle.step_writer.proofs.SendLaws.{copied}

-- ---- messages that are received
-- A message in its place, received at a number.
abbrev received_in : List Message → ℕ → ℕ → List Message
received_in ms k n = set ms k (with_receipt (get_or ms k no_message) n)

-- The listed ones, one after another.
unfoldable pub messages_set : List Message → List ℕ → ℕ → List Message
messages_set ms [] n = ms
messages_set ms (k ∷ rest) n = messages_set (received_in ms k n) rest n

same_size : (ms : List Message) (list : List ℕ) (n : ℕ) → length (messages_set ms list n) ≡ length ms
unfolding messages_set
same_size ms [] n = refl
same_size ms (k ∷ rest) n = same_size (received_in ms k n) rest n ∙ length-set ms k _

-- a message that is listed twice is received once
set_at : (ms : List Message) (list : List ℕ) (n k : ℕ) → k < length ms
    → get_or (messages_set ms list n) k no_message ≡ cond (any (eqb k) list) (with_receipt (get_or ms k no_message) n) (get_or ms k no_message)
unfolding messages_set any
set_at ms [] n k l = refl
set_at ms (x ∷ rest) n k l = set_at (received_in ms x n) rest n k (rw (length-set ms x) l) ∙ go (eqb k x) refl
  where
    m : Message
    m = get_or ms k no_message

    again : (b : Bool) → cond b (with_receipt m n) (with_receipt m n) ≡ with_receipt m n
    again true = refl
    again false = refl

    go : (b : Bool) → eqb k x ≡ b
        → cond (any (eqb k) rest) (with_receipt (get_or (received_in ms x n) k no_message) n) (get_or (received_in ms x n) k no_message)
        ≡ cond (b || any (eqb k) rest) (with_receipt m n) m
    go true e =
        let here : get_or (received_in ms x n) k no_message ≡ with_receipt m n =
        ap (λ (j : ℕ). get_or (received_in ms j n) k no_message) (sym (eqb-true k x e)) ∙ get_or-set_same ms k _ no_message l in
        rw here (again (any (eqb k) rest))
    go false e = rw (get_or-set_other ms x k (with_receipt (get_or ms x no_message) n) no_message (eqb-false k x e))

pub messages-set : (t : Table) (i : ℕ) (list : List ℕ) → messages_set t.messages list (count_of t i) ≡ (after_receipt t i list).messages
unfolding message_count message_of received_at
messages-set t i list =
    let after = receipt_receives t i list in
    ext_get_or no_message _ _ (same_size t.messages list (count_of t i) ∙ sym (receives_messages after)) (λ k l.
    let inside : k < length t.messages = omega (arith, same_size t.messages list (count_of t i)) in
    set_at t.messages list (count_of t i) k inside ∙ sym (receives_message after k inside))

-- ---- their receipts
receipt_set : (ms : List Message) (k n : ℕ) → k < length ms → set (receipts_of ms) (2 * k + 1) n ≡ receipts_of (received_in ms k n)
unfolding entries_of
receipt_set [] k n l = absurd (omega arith)
receipt_set (m ∷ rest) zero n l = refl
receipt_set (m ∷ rest) (suc k) n l =
    let further : 2 * suc k + 1 ≡ suc (suc (2 * k + 1)) = omega arith in
    rw further (ap (λ (x : List ℕ). m.receiver ∷ m.received ∷ x) (receipt_set rest k n (omega arith)))

pub receipts_set_lem : (ms : List Message) (list : List ℕ) (n : ℕ) → ((a : ℕ) → a < length list → get_or list a 0 < length ms)
    → receipts_set (u16s (receipts_of ms)) list n ≡ u16s (receipts_of (messages_set ms list n))
unfolding receipts_set messages_set
receipts_set_lem ms [] n listed = refl
receipts_set_lem ms (k ∷ rest) n listed =
    let here : k < length ms = listed zero (suc-le-suc zero-le) in
    let place : 4 * k + 2 ≡ 2 * (2 * k + 1) = omega arith in
    ap (λ (x : List ℕ). receipts_set x rest n)
    (ap (λ (j : ℕ). put_at (u16s (receipts_of ms)) j (u16_bytes n)) place
    ∙ number-set 2 (receipts_of ms) (2 * k + 1) n (omega (arith, length_entries (λ x. x.receiver) (λ x. x.received) ms))
    ∙ ap u16s (receipt_set ms k n here))
    ∙ receipts_set_lem (received_in ms k n) rest n (λ a l. omega (
      arith,
      listed (suc a) (suc-le-suc l),
      length-set ms k
          (with_receipt (get_or ms k no_message) n),
    ))

-- ---- a loop that sets them
-- With those from entry a of the list on still to be set, the part becomes what it is to be.
pub record SettingReceipts (before list : List ℕ) (number : ℕ) (part : List ℕ) (a : ℕ) : Type 0 where
  pub listed : (b : ℕ) → b < length list → 4 * get_or list b 0 + 3 < length before
  pub same_length : length part ≡ length before
  pub left : receipts_set part (drop a list) number ≡ receipts_set before list number

module _ {before list : List ℕ} {number : ℕ} where
  pub setting_none : ((b : ℕ) → b < length list → 4 * get_or list b 0 + 3 < length before) → SettingReceipts before list number before 0
  setting_none listed = record { listed = listed; same_length = refl; left = refl }

  module _ {part : List ℕ} {a : ℕ} (w : SettingReceipts before list number part a) where
    pub setting_more : a < length list → {later : List ℕ} → length later ≡ length part
        → later ≡ put_at part (4 * get_or list a 0 + 2) (u16_bytes number) → SettingReceipts before list number later (a + 1)
    unfolding receipts_set
    setting_more l same is = record {
      listed = w.listed;
      same_length = same ∙ w.same_length;
      left =
          ap₂ (λ (x : List ℕ) (j : ℕ). receipts_set x (drop j list) number) is (add-one a)
          ∙ sym (ap (λ (x : List ℕ). receipts_set part x number) (drop-cons list a 0 l)) ∙ w.left;
    }

    pub setting_all : length list ≤ a → part ≡ receipts_set before list number
    unfolding receipts_set
    setting_all l = sym (ap (λ (x : List ℕ). receipts_set part x number) (drop_of_length-le list l)) ∙ w.left

-- ---- m receipts that were copied to a place of a buffer, and set there, where the code lends them
pub record ListedPut (before : List ℕ) (at m : ℕ) (receipts list : List ℕ) (number : ℕ) (put part : List ℕ) : Type 0 where
  pub room : at + 4 * m ≤ length before
  pub copy : put ≡ put_at before at (u16s (copied m receipts))
  pub set_there : part ≡ receipts_set (take (at + 4 * m - at) (drop at put)) list number
  pub same_length : length part ≡ length (take (at + 4 * m - at) (drop at put))

pub listed_put : {before : List ℕ} {at m : ℕ} {receipts list : List ℕ} {number : ℕ} {put part : List ℕ}
    → ListedPut before at m receipts list number put part
    → take at put ++ (part ++ drop (at + 4 * m - at) (drop at put)) ≡ put_at before at (receipts_set (u16s (copied m receipts)) list number)
listed_put {before} {at} {m} {receipts} {list} {number} {put} {part} w =
    let xs : List ℕ = u16s (copied m receipts) in
    let size : at + 4 * m - at ≡ length xs = omega (arith, numbers_size (2 * m) (λ k. u16_at receipts (2 * k))) in
    let fits : at + length xs ≤ length before = omega (arith, w.room) in
    let there : take (at + 4 * m - at) (drop at put) ≡ xs =
    ap₂ (λ (x : List ℕ) (n : ℕ). take n (drop at x)) w.copy size ∙ part_there before xs at fits in
    ap₂ (λ (x : List ℕ) (n : ℕ). take at x ++ (part ++ drop n (drop at x))) w.copy size
    ∙ part_anew before xs at fits part (w.same_length ∙ ap length there)
    ∙ ap (put_at before at) (w.set_there ∙ ap (λ (x : List ℕ). receipts_set x list number) there)

-- the positions of a receipt that can be taken
pub positions_below : {table : List ℕ} {i : ℕ} {list : List ℕ} → CanReceive table i list → {m : ℕ} → m ≡ message_count (decode table)
    → (a : ℕ) → a < length list → get_or list a 0 < m
positions_below {table} {i} {list} can m_is a l =
    omega (arith, (good_position (decode table) i (get_or list a 0) (none_of (bad_position (decode table) i) list 0 can.waiting a l)).a_message)
