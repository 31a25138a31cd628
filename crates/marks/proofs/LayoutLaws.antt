-- Where the bits of a process stand.
--     first_none, first_more    the first bit of process 0, and of the next process
--     first_apart               the states of two processes have bits of their own
--     first-all                 all states together
--     state_inside, process_inside    the bits of a state and of a process are in the buffer
--     first_small                     of an accepted table the first bits are small
--     firsts_none, firsts_here, firsts_more    the loop that finds them
--     first_at, first_last            one of them, in the array; behind the last process stands the number of all bits
--     few, first_read, end_read, bit_small, size_is    that, as the code reads it
-- Assumes nothing.
use mathlib.Core.List.{List}
use mathlib.Core.Path.{◌≡◌, refl, sym, ap, ◌∙◌}
use Prim.Native.Nat.{ℕ, zero, suc, ◌+◌, ◌*◌, ◌/◌, ◌≤◌, ◌<◌}
use native.Mathlib.Decide.{dec_lt, ℕ_discrete}
use native.Mathlib.Omega.{arith}
use lib.ListN.{get_or, length, replicate, set}
use Rattle.marks.specs.Bits.{first_bit, most_bits}
use Rattle.marks.specs.Room.{marks_size}
use Rattle.tables.proofs.AcceptLaws.{facts}
use Rattle.tables.proofs.ArrayLaws.{array_at, filled_more, filled_none}
use Rattle.tables.proofs.FormatLaws.{count_beyond}
use Rattle.tables.proofs.ListLaws.{get_or_tabulate, sum_more, tabulate-get_or}
use Rattle.tables.proofs.ReadLaws.{processes_few}
use Rattle.tables.specs.Arrays.{Filled, array_of}
use Rattle.tables.specs.Checks.{table_refusal}
use Rattle.tables.specs.Format.{decode}
use Rattle.tables.specs.Lists.{sum, tabulate}
use Rattle.tables.specs.Table.{Table, checkpoint_total, count_of, most_checkpoints, process_count}

module _ (counts : List ℕ) where
  pub first_none : first_bit counts 0 ≡ 0
  unfolding first_bit sum tabulate
  first_none = refl

  pub firsts_none : Filled (first_bit counts) 1 (replicate 33 0) (replicate 33 0)
  firsts_none = filled_more filled_none (sym first_none) refl

  pub first_more : (p : ℕ) → first_bit counts (suc p) ≡ first_bit counts p + suc (get_or counts p 0)
  unfolding first_bit
  first_more p = sum_more p (λ q. suc (get_or counts q 0))

  pub first_apart : (p p' : ℕ) → p < p' → first_bit counts p + suc (get_or counts p 0) ≤ first_bit counts p'
  first_apart p zero l = absurd (omega arith)
  first_apart p (suc p') l = go (ℕ_discrete p p') (first_apart p p')
    where
      go : Dec (p ≡ p') → (p < p' → first_bit counts p + suc (get_or counts p 0) ≤ first_bit counts p')
          → first_bit counts p + suc (get_or counts p 0) ≤ first_bit counts (suc p')
      go (yes same) before = omega (arith, first_more p, ap (λ (q : ℕ). first_bit counts (suc q)) same)
      go (no other) before = omega (arith, before (omega arith), first_more p')

  sum_sucs : (n : ℕ) (f : ℕ → ℕ) → sum (tabulate n (λ q. suc (f q))) ≡ sum (tabulate n f) + n
  unfolding sum tabulate
  sum_sucs zero f = refl
  sum_sucs (suc n) f = omega (arith, sum_sucs n (λ q. f (suc q)))

  pub first-all : first_bit counts (length counts) ≡ sum counts + length counts
  unfolding first_bit
  first-all = sum_sucs (length counts) (λ q. get_or counts q 0) ∙ ap (λ (l : List ℕ). sum l + length counts) (tabulate-get_or counts 0)

module _ (t : Table) (p : ℕ) (known : p < process_count t) where
  pub process_inside : first_bit t.counts (suc p) ≤ 8 * marks_size t
  unfolding marks_size process_count checkpoint_total
  process_inside = go (ℕ_discrete (suc p) (length t.counts))
    where
      room : sum t.counts + length t.counts ≤ 8 * ((sum t.counts + length t.counts + 7) / 8)
      room = omega arith

      go : Dec (suc p ≡ length t.counts) → first_bit t.counts (suc p) ≤ 8 * ((sum t.counts + length t.counts + 7) / 8)
      go (yes same) = omega (arith, room, first-all t.counts, ap (first_bit t.counts) same)
      go (no other) = omega (arith, room, first-all t.counts, first_apart t.counts (suc p) (length t.counts) (omega arith))

  pub state_inside : (y : ℕ) → y ≤ count_of t p → (first_bit t.counts p + y) / 8 < marks_size t
  unfolding count_of
  state_inside y l = omega (arith, process_inside, first_more t.counts p)

-- ---- the first bits of an accepted table
module _ (table : List ℕ) (accepted : table_refusal table ≡ 0) where
  abbrev counts : List ℕ
  counts = (decode table).counts

  count_small : (p : ℕ) → get_or counts p 0 ≤ most_checkpoints
  unfolding count_of
  count_small p = go (dec_lt p (process_count (decode table)))
    where
      go : Dec (p < process_count (decode table)) → count_of (decode table) p ≤ most_checkpoints
      go (yes l) = (facts table accepted).limits.counts_limit p l
      go (no l) = omega (arith, count_beyond (decode table) p (omega arith))

  pub first_small : (p : ℕ) → first_bit counts p ≤ 4097 * p
  first_small zero = omega (arith, first_none counts)
  first_small (suc p) = omega (arith, first_small p, first_more counts p, count_small p)

-- Those of processes 0 to p are found.
module _ (table : List ℕ) {first : List ℕ} {p : ℕ} (f : Filled (first_bit (decode table).counts) (p + 1) (replicate 33 0) first) (more : p < 32) where
  pub firsts_here : get_or first p 0 ≡ first_bit (decode table).counts p
  firsts_here = f.front p (omega arith) (omega arith)

  -- a count was read of them as an array
  pub firsts_more : table_refusal table ≡ 0 → {array : List ℕ} → array ≡ array_of (decode table).counts → {count : ℕ} → count
      ≡ get_or array p 0
      → Filled (first_bit (decode table).counts) (p + 1 + 1) (replicate 33 0) (set first (p + 1) (get_or first p 0 + 1 + count))
  unfolding process_count
  firsts_more accepted are {count} e = filled_more f next refl
    where
      next : get_or first p 0 + 1 + count ≡ first_bit (decode table).counts (p + 1)
      next =
          let place : p + 1 ≡ suc p = omega arith in
          let count_is = e ∙ ap (λ (l : List ℕ). get_or l p 0) are ∙ array_at (decode table).counts (processes_few table accepted) p in
          omega (arith, count_is, firsts_here, ap (first_bit (decode table).counts) place, first_more (decode table).counts p)

-- an entry of the array; behind the last process stands the number of all bits
pub first_at : (t : Table) {first : List ℕ} → first ≡ tabulate 33 (first_bit t.counts) → (p : ℕ) → p ≤ 32
    → get_or first p 0 ≡ first_bit t.counts p
first_at t are p l = ap (λ (l : List ℕ). get_or l p 0) are ∙ get_or_tabulate 33 (first_bit t.counts) p 0 (omega arith)

pub first_last : (t : Table) → first_bit t.counts (process_count t) ≡ checkpoint_total t + process_count t
unfolding process_count checkpoint_total
first_last t = first-all t.counts

-- as the code reads them
module _ (table : List ℕ) (accepted : table_refusal table ≡ 0) where
  pub few : {p : ℕ} → p ≤ process_count (decode table) → p ≤ 32
  few known = omega (arith, processes_few table accepted)

  module _ {first : List ℕ} (are : first ≡ tabulate 33 (first_bit (decode table).counts)) where
    pub first_read : {p : ℕ} → p ≤ process_count (decode table) → get_or first p 0 ≡ first_bit (decode table).counts p
    first_read {p} known = first_at (decode table) are p (few known)

    pub end_read : {p : ℕ} → p < process_count (decode table) → get_or first (p + 1) 0 ≡ first_bit (decode table).counts (suc p)
    end_read {p} known =
        let next : p + 1 ≤ process_count (decode table) = omega arith in
        let place : p + 1 ≡ suc p = omega arith in
        first_read next ∙ ap (first_bit (decode table).counts) place

    pub bit_small : {p y : ℕ} → p < process_count (decode table) → y ≤ count_of (decode table) p + 1 → get_or first p 0 + y ≤ most_bits
    unfolding count_of
    bit_small {p} known there =
        let below : p ≤ process_count (decode table) = omega arith in
        omega (arith, first_read below, first_more (decode table).counts p, first_small table accepted (suc p), processes_few table accepted)

    pub size_is : {n : ℕ} → n ≡ process_count (decode table) → (get_or first n 0 + 7) / 8 ≡ marks_size (decode table)
    unfolding marks_size
    size_is {n} n_is =
        let last : n ≤ process_count (decode table) = omega arith in
        ap (λ (b : ℕ). (b + 7) / 8) (first_read last ∙ ap (first_bit (decode table).counts) n_is ∙ first_last (decode table))
