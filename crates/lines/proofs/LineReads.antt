-- The lines that the code finds, as arrays of 32 numbers.
--     array_line                 the line under an array is the array of the line
--     height_in .. height_read   how high a process may stand, entry by entry
--     ceiling_read, line_read    the ceiling of a set in an accepted table, and the line under one, from what the code read
--     set_read, set_front        the line of a set, under its ceiling; the numbers of an answer
--     all_hold_lem                   the set of all 32 bits gives the recovery line
-- Assumes nothing.
use mathlib.Core.Bool.{Bool, cond}
use mathlib.Core.List.{List}
use mathlib.Core.Path.{◌≡◌, sym, ap, ap₂, ◌∙◌}
use Prim.Native.Nat.{ℕ, ◌*◌, ◌-◌, ◌≤◌, ◌<◌}
use native.Mathlib.Decide.{dec_lt}
use native.Mathlib.Omega.{arith}
use borrow.Author.Tests.{le-ltb, lt-ltb}
use lib.ListN.{length, take}
use Rattle.consistency.proofs.CeilingLaws.{all-zero, ceiling_at_lem, ceiling_length, set-length}
use Rattle.consistency.proofs.LineLaws.{latest_same}
use Rattle.consistency.proofs.LoweringLaws.{line_is, line_latest, line_length}
use Rattle.consistency.specs.Ceilings.{ceiling_of, line_of, recovery_line}
use Rattle.consistency.specs.Lines.{as_line}
use Rattle.consistency.specs.Lowering.{line_under}
use Rattle.lines.specs.Arrays.{height_at}
use Rattle.lowering.specs.Lowered.{all_messages, messages_of}
use Rattle.process_set.proofs.SetLaws.{all-member}
use Rattle.process_set.specs.Sets.{all_processes, member}
use Rattle.tables.proofs.FormatLaws.{count_beyond, decode-messages}
use Rattle.tables.proofs.ArrayLaws.{array_at, array_front, array_length}
use Rattle.tables.proofs.ListLaws.{tabulate_ext}
use Rattle.tables.proofs.ReadLaws.{count_is, processes_few}
use Rattle.tables.specs.Arrays.{array_of}
use Rattle.tables.specs.Checks.{table_refusal}
use Rattle.tables.specs.Format.{count_at, counts_part, decode, receipts_part, sends_part}
use Rattle.tables.specs.Lists.{tabulate}
use Rattle.tables.specs.Numbers.{u16_at}
use Rattle.tables.specs.Table.{Message, count_of, message_count, process_count}
use Rattle.tables.specs.declared.messages.MessageParts.{MessageParts}

pub array_line : (ms : List Message) (c : List ℕ) → length c ≤ 32 → line_under ms (array_of c) ≡ array_of (line_under ms c)
array_line ms c small =
    sym (line_is ms (array_of c) (array_of (line_under ms c)) (array_length (line_under ms c) ∙ sym (array_length c))
    (latest_same ms (as_line c) (as_line (array_of c)) (as_line (line_under ms c)) (as_line (array_of (line_under ms c))) (λ p. sym (array_at c small p))
    (λ p. sym (array_at (line_under ms c) (omega (arith, line_length ms c)) p)) (line_latest ms c)))

module _ (n set : ℕ) (counts : List ℕ) (p : ℕ) where
  pub height_in : p < n → height_at n set counts p ≡ cond (member set p) (count_at counts p - 1) (count_at counts p)
  unfolding height_at
  height_in l = rw (lt-ltb p n l)

  pub height_beyond : n ≤ p → height_at n set counts p ≡ 0
  unfolding height_at
  height_beyond l = rw (le-ltb p n l)

-- from the numbers that the code read
pub height_read : (counts : List ℕ) {n p count : ℕ} → p < n → count ≡ u16_at counts (2 * p)
    → (set : ℕ) {holds : Bool} {r : ℕ} → holds ≡ member set p → r ≡ cond holds (count - 1) count → r ≡ height_at n set counts p
unfolding count_at
height_read counts {n} {p} l read set is_held_lem e =
    e ∙ ap₂ (λ (b : Bool) (c : ℕ). cond b (c - 1) c) is_held_lem read ∙ sym (height_in n set counts p l)

-- ---- the line that the code finds in an accepted table
module _ (bytes : List ℕ) (accepted : table_refusal bytes ≡ 0) where
  abbrev N : ℕ
  N = process_count (decode bytes)

  height_is : (set p : ℕ) → height_at N set (counts_part bytes) p ≡ as_line (ceiling_of (decode bytes) (member set)) p
  height_is set p = go (dec_lt p N) ∙ sym (ceiling_at_lem (decode bytes) (member set) p)
    where
      wanted : ℕ → ℕ
      wanted c = cond (member set p) (c - 1) c

      go : Dec (p < N) → height_at N set (counts_part bytes) p ≡ wanted (count_of (decode bytes) p)
      go (yes l) = height_in N set (counts_part bytes) p l ∙ ap wanted (count_is bytes accepted p l)
      go (no l) =
          height_beyond N set (counts_part bytes) p (omega arith)
          ∙ sym (all-zero (member set p) (count_of (decode bytes) p) (count_beyond (decode bytes) p (omega arith)))

  pub ceiling_read : {n : ℕ} {counts : List ℕ} → n ≡ N → counts ≡ counts_part bytes
      → (set : ℕ) → tabulate 32 (height_at n set counts) ≡ array_of (ceiling_of (decode bytes) (member set))
  unfolding array_of
  ceiling_read n_is counts_are set = rw (n_is, counts_are) (tabulate_ext 32 _ _ (λ p _. height_is set p))

  -- the line of a set, under its ceiling; the numbers of an answer
  module _ (set : ℕ) where
    pub set_read : line_under (decode bytes).messages (array_of (ceiling_of (decode bytes) (member set))) ≡ array_of (line_of (decode bytes) (member set))
    unfolding line_of
    set_read = array_line (decode bytes).messages _ (omega (arith, ceiling_length (decode bytes) (member set), processes_few bytes accepted))

    pub set_front : (line : List ℕ) → line ≡ array_of (line_of (decode bytes) (member set)) → take N line ≡ line_of (decode bytes) (member set)
    set_front line e =
        let size = set-length (decode bytes) (member set) in
        array_front (line_of (decode bytes) (member set)) line N e (sym size) (omega (arith, size, processes_few bytes accepted))

-- by the messages of the table, as parts
pub line_read : (bytes : List ℕ) (parts : MessageParts) → parts.count ≡ message_count (decode bytes) → parts.sends.now ≡ sends_part bytes
    → parts.receipts.now ≡ receipts_part bytes
    → (ceiling : List ℕ) → line_under (all_messages parts) ceiling ≡ line_under (decode bytes).messages ceiling
unfolding messages_of decode
line_read bytes parts counted sends receipts ceiling = rw (counted, sends, receipts, decode-messages bytes)

pub all_hold_lem : (bytes : List ℕ) → table_refusal bytes ≡ 0 → line_of (decode bytes) (member all_processes) ≡ recovery_line (decode bytes)
unfolding recovery_line line_of ceiling_of
all_hold_lem bytes accepted =
    ap (line_under (decode bytes).messages)
    (tabulate_ext (process_count (decode bytes)) _ _
    (λ p l. ap (λ (b : Bool). cond b (count_of (decode bytes) p - 1) (count_of (decode bytes) p))
    (all-member p (omega (arith, processes_few bytes accepted)))))
