-- What loops over n lines find.
--     least_at_most, least_first      the least of n numbers
--     lowest_found                    the lowest line
--     select_next, select_last, tallied_next, tallied_last    from one number that passes a test to the next
--     received-before                 a message that crosses no line
--     .. -kept                        whether a message is kept
--     message_beside                  message k, by its receiver
--     keeps_at                        what a loop over the messages tests
--     kept_number, checkpoints_counted, checkpoints_few    the kept checkpoints of each process, counted
-- Assumes nothing.
use mathlib.Core.Bool.{Bool, true, false, and-false}
use mathlib.Core.List.{List, [], ◌∷◌, ◌++◌}
use mathlib.Core.Logic.{⊎_elim}
use mathlib.Core.Path.{◌≡◌, refl, sym, ap, ap₂, ◌∙◌}
use Prim.Native.Nat.{ℕ, zero, suc, ◌+◌, ◌<◌, ◌≤◌, zero-le}
use native.Mathlib.Nat.{eq-or-lt_of_le, le_of_suc-le-suc, le_refl, mul-le-mul}
use native.Mathlib.Omega.{arith}
use borrow.Author.Tests.{eqb-false, eqb-true, ne_eqb, le-ltb}
use lib.Dec.{eqb, ltb}
use lib.ListN.{length, get_or, length-append, length-map}
use Rattle.std.proofs.Common.{Option, Some, None, map, sum, unwrap_or}
use Rattle.std.specs.List.{range_with_len}
use Rattle.consistency.specs.Lines.{Line}
use Rattle.holder_lines.specs.Held.{line_held}
use Rattle.holder_lines.specs.Scratch.{HoldsLines, lines_in}
use Rattle.holder_lines.specs.declared.scratch.HeldLines.{HeldLines}
use Rattle.sheet_entries.proofs.ChainLaws.{sum_of_sizes}
use Rattle.keep_sheet.specs.Sheet.{crosses}
use Rattle.tables.proofs.ArrayLaws.{array_at}
use Rattle.tables.proofs.ListLaws.{any_below_none, found_below, get_or_tabulate, length-tabulate, none_below, rows_most, select_gap, select_more}
use Rattle.tables.proofs.SelectLaws.{Tallied, select_few}
use Rattle.tables.specs.Format.{count_at, message_at}
use Rattle.tables.specs.declared.messages.MessageParts.{MessageParts}
use Rattle.tables.specs.Lists.{First, any_below, select, tabulate}
use Rattle.tables.specs.Parts.{MessageThere}
use Rattle.tables.specs.Table.{Message, most_processes}
use Rattle.sheet_entries.specs.Kept.{FirstBelow, MessageBeside, checkpoints_at, checkpoints_of, crosses_line, is_kept, kept_of, least_below, lowest_at}
use Rattle.sheet_entries.specs.Kept.{lowest_line, shows}

-- ---- the least of n numbers
module _ (f : ℕ → ℕ) where
  least_at_most : (n k : ℕ) → k < n → least_below n f ≤ f k
  unfolding least_below
  least_at_most zero k l = absurd (omega arith)
  least_at_most (suc n) k l =
      ⊎_elim (λ same. omega (arith, ap f same)) (λ b. omega (arith, least_at_most n k b)) (eq-or-lt_of_le (le_of_suc-le-suc l))

  least_from : (n r : ℕ) → r ≤ 65535 → ((k : ℕ) → k < n → r ≤ f k) → (r ≤ least_below n f) × (least_below n f ≤ 65535)
  unfolding least_below
  least_from zero r l each = (l, le_refl 65535)
  least_from (suc n) r l each =
      let below = least_from n r l (λ k b. each k (omega arith)) in
      (omega (arith, each n (omega arith), below.0), omega (arith, below.1))

  least_first : (n r : ℕ) → First (λ c. any_below n (λ k. eqb (f k) c)) 0 65535 r → r ≡ least_below n f
  least_first n r h = omega (arith, bounds.0, not_above)
    where
      each : (k : ℕ) → k < n → r ≤ f k
      each k l =
          let not_below_lem : f k < r → ⊥ = λ b. eqb-false (f k) (f k) (none_below _ n (h.none_before (f k) zero-le b) k l) refl in
          omega arith

      bounds : (r ≤ least_below n f) × (least_below n f ≤ 65535)
      bounds = least_from n r h.within each

      not_above : r < least_below n f → ⊥
      not_above b =
          let there = found_below (λ k. eqb (f k) r) n (h.passes (omega (arith, bounds.1))) in
          omega (arith, least_at_most n there.0 there.1, eqb-true (f there.0) r there.2)

-- the lowest line's number at process i, as it was found
pub lowest_found : {n : ℕ} (line : ℕ → Line) {i v : ℕ} → i < n → (r : Option ℕ) → FirstBelow (shows n line i) 0 65535 r → v
    ≡ unwrap_or r 65535
    → v ≡ get_or (tabulate n (lowest_at n line)) i 0
unfolding shows lowest_at
lowest_found {n} line {i} l r first e =
    e ∙ least_first (λ k. line k i) n (unwrap_or r 65535) (or_limit r first) ∙ sym (get_or_tabulate n (lowest_at n line) i 0 l)
  where
    or_limit : (r : Option ℕ) → FirstBelow (shows n line i) 0 65535 r → First (shows n line i) 0 65535 (unwrap_or r 65535)
    or_limit None f = f
    or_limit (Some c) f = f.0

-- ---- a loop that goes from one number that passes a test to the next
module _ {test : ℕ → Bool} {from limit : ℕ} where
  pub select_next : {c : ℕ} → First test from limit c → c < limit → select test (c + 1) ≡ select test from ++ (c ∷ [])
  select_next {c} f l = select_more test c (f.passes l) ∙ ap (λ (xs : List ℕ). xs ++ (c ∷ [])) (select_gap test from c f.from_on f.none_before)

  pub select_last : First test from limit limit → select test limit ≡ select test from
  select_last f = select_gap test from limit f.from_on f.none_before

  -- they are counted
  module _ {kept : ℕ} (h : Tallied test limit kept from) where
    pub tallied_next : {c : ℕ} → First test from limit c → c < limit → Tallied test limit (kept + 1) (c + 1)
    tallied_next {c} f l =
        record { within = omega arith; number = omega (arith, h.number, ap length (select_next f l), length-append (select test from) (c ∷ [])) }

    pub tallied_last : First test from limit limit → kept ≡ length (select test limit)
    tallied_last f = h.number ∙ ap length (sym (select_last f))

-- ---- whether a message crosses a line, by the number that the line has at its receiver
received-before : (l : Line) (m : Message) {x : ℕ} → x ≡ l m.receiver → m.received ≤ x → crosses l m ≡ false
unfolding crosses
received-before l m of-receiver b = rw (le-ltb (l m.receiver) m.received (omega arith)) (and-false (ltb m.sent (l m.sender)))

-- ---- whether a message is kept, by its numbers as they were read
module _ (n : ℕ) (line : ℕ → Line) (m : Message) {x : ℕ} (read-x : x ≡ m.received) where
  pub undelivered_kept : x ≡ 0 → true ≡ is_kept n line m
  unfolding is_kept
  undelivered_kept none = rw (← read-x, none)

  module _ (some : x ≡ 0 → ⊥) where
    pub delivered_kept : {j y i : ℕ} {r : Bool} → i ≡ m.receiver → j ≡ m.sender → y ≡ m.sent
        → r ≡ crosses_line n line (record { sender = j; sent = y; receiver = i; received = x }) → r ≡ is_kept n line m
    unfolding is_kept
    delivered_kept read-i read-j read-y e = rw (← read-x, ne_eqb x 0 some) (rw (read-i, read-j, read-y) at e)

    -- received at or before the lowest line, it crosses no line
    pub old_kept : {lowest : ℕ} → lowest ≡ lowest_at n line m.receiver → x ≤ lowest → false ≡ is_kept n line m
    unfolding is_kept crosses_line lowest_at
    old_kept lowest_is b =
        let least = least_at_most (λ j. line j m.receiver) n in
        let none = any_below_none _ n (λ j l. received-before (line j) m refl (omega (arith, lowest_is, least j l))) in
        sym (rw (ne_eqb m.received 0 (λ e. some (read-x ∙ e))) none)

-- ---- message k, by the lowest line and its receiver, as it was read
pub message_beside : {n k : ℕ} {scratch sends receipts : List ℕ} → HoldsLines n scratch → MessageThere n k sends receipts
    → {receiver : ℕ} → receiver ≡ (message_at sends receipts k).receiver
    → {lowest : List ℕ} → lowest ≡ lowest_line n (lines_in scratch n)
    → MessageBeside n (get_or lowest receiver 0) k scratch sends receipts
unfolding lowest_line message_at
message_beside {n} {scratch = scratch} holds there read lowest_is =
    let numbers = tabulate n (lowest_at n (lines_in scratch n)) in
    let size = length-tabulate n (lowest_at n (lines_in scratch n)) in
    record {
      holds = holds;
      there = there;
      lowest_is =
          ap₂ (λ (xs : List ℕ) (i : ℕ). get_or xs i 0) lowest_is read ∙ array_at numbers (omega (arith, size, holds.few)) _
          ∙ get_or_tabulate n (lowest_at n (lines_in scratch n)) _ 0 there.receiver_known;
    }

-- what a loop over the messages tests of message k
abbrev pub keeps_at : HeldLines → MessageParts → ℕ → Bool
keeps_at lines messages k = is_kept lines.n (line_held lines) (message_at messages.sends.now messages.receipts.now k)

-- ---- the kept checkpoints of n processes, counted one process after another
module _ (n : ℕ) (line : ℕ → Line) (counts : List ℕ) where
  -- how many of process i are kept
  abbrev pub kept_number : ℕ → ℕ
  kept_number i = length (kept_of n line i (count_at counts i))

  pub checkpoints_counted : sum (map kept_number (range_with_len 0 n)) ≡ length (checkpoints_of n line counts)
  unfolding checkpoints_of checkpoints_at
  checkpoints_counted =
      sum_of_sizes _ kept_number (λ i. sym (length-map (kept_of n line i (count_at counts i)) (λ (c : ℕ). record { process = i; number = c }))) n

  pub checkpoints_few : n ≤ most_processes → sum (map kept_number (range_with_len 0 n)) ≤ 1024
  unfolding kept_of shows
  checkpoints_few few =
      let most = rows_most (λ i. kept_of n line i (count_at counts i)) n n (λ i _. select_few (λ k. line k i) n (count_at counts i)) in
      omega (arith, sum_of_sizes (λ i. kept_of n line i (count_at counts i)) kept_number (λ i. refl) n, most, mul-le-mul few few)
