-- The lists of named checkpoints, as the code goes over them.
--     parallel, place_inside                lists that the checks let through, each process of which has a place in an array
--     unknown_found, not_below_found, missed_found    what a chain over them finds is what is asked
--     both                                  an iterator over both lists
--     NamedAt, named_at, known_at           what stands at a place of theirs, as the iterator gives it; pairs_length
--     NamedIn                               what the next loop is given
--     NamedPut, put_none, put_more, put_all    a loop that puts the named numbers into an array of the counts
--     line_put                              the line under that array
--     misses_found, line_found              the line found as an array: whether it misses a name, and its first N numbers
-- Assumes nothing.
use mathlib.Core.Bool.{Bool, false, not, ◌||◌}
use mathlib.Core.List.{List, [], ◌∷◌}
use mathlib.Core.Path.{◌≡◌, refl, sym, ap, ap₂, ◌∙◌}
use Prim.Native.Nat.{ℕ, ◌+◌, ◌≤◌, ◌<◌, zero-le}
use native.Mathlib.Numerals.{add-one}
use native.Mathlib.Omega.{arith}
use borrow.Author.Tests.{leb-false}
use lib.Dec.{eqb, leb}
use lib.ListN.{length, get_or, set, take}
use Rattle.consistency.proofs.LoweringLaws.{line_length}
use Rattle.consistency.specs.Lowering.{line_under}
use Rattle.lines.proofs.LineReads.{array_line}
use Rattle.named_checkpoints.specs.Lists.{Parallel}
use Rattle.std.proofs.Common.{Iter}
use Rattle.std.proofs.iter.Yields.{fronts}
use Rattle.std.proofs.lemmas.Iterator.{YieldsList, YieldsList-from_slice, YieldsList-from_zip, zips}
use Rattle.std.specs.Iterator.Adapters.{zip_first, zip_second}
use Rattle.std.specs.List.{list_any, zip}
use Rattle.std.specs.Slice.Iter.{iter_rest}
use Rattle.std.specs.declared.iter.Zip.{Zip}
use Rattle.tables.proofs.ArrayLaws.{array_at, array_front, array_set}
use Rattle.tables.proofs.ListLaws.{any-tabulate, any_below_ext, get_or_tabulate, length-tabulate, none_below, tabulate-get_or}
use Rattle.tables.proofs.ReadLaws.{processes_few}
use Rattle.tables.specs.Arrays.{array_of}
use Rattle.tables.specs.Checks.{table_refusal}
use Rattle.tables.specs.Format.{decode}
use Rattle.tables.specs.Lists.{any, any_below, tabulate}
use Rattle.tables.specs.Table.{Table, count_of, most_processes, process_count}
use Rattle.zigzag.proofs.NameLaws.{put_length}
use Rattle.zigzag.specs.Names.{not_below_counts, unknown_named}
use Rattle.zigzag.specs.Together.{misses, named_ceiling, named_line, put_named}

-- ---- lists that 20 and the first half of 21 let through
pub parallel : (t : Table) (processes states : List ℕ) → length processes ≡ length states → unknown_named t processes ≡ false
    → Parallel (process_count t) processes states
unfolding unknown_named
parallel t processes states e none = record {
  for_each = sym e;
  known = λ k l. leb-false (process_count t) (get_or processes k 0) (none_below _ (length processes) none k l);
}

-- in an accepted table a named process has a place in an array of 32
pub place_inside : (table : List ℕ) → table_refusal table ≡ 0 → {processes states : List ℕ}
    → Parallel (process_count (decode table)) processes states
    → {k : ℕ} → k < length processes → get_or processes k 0 < most_processes
place_inside table accepted lists l = omega (arith, lists.known _ l, processes_few table accepted)

-- ---- what a chain finds, over one list or over two
as_any : {A : Type 0} (test : A → Bool) (l : List A) → list_any test l ≡ any test l
unfolding any
as_any test [] = refl
as_any test (x ∷ rest) = ap (λ (r : Bool). test x || r) (as_any test rest)

any_entry : (test : ℕ → Bool) (xs : List ℕ) → list_any test xs ≡ any_below (length xs) (λ k. test (get_or xs k 0))
any_entry test xs =
    as_any test xs ∙ ap (any test) (sym (tabulate-get_or xs 0)) ∙ any-tabulate test (length xs) (λ k. get_or xs k 0)

pairs : (xs ys : List ℕ) → length ys ≡ length xs → zip xs ys ≡ tabulate (length xs) (λ k. (get_or xs k 0, get_or ys k 0))
unfolding tabulate
pairs [] ys e = refl
pairs (x ∷ xs) [] e = absurd (omega (arith, e))
pairs (x ∷ xs) (y ∷ ys) e = ap (λ (r : List (ℕ × ℕ)). (x, y) ∷ r) (pairs xs ys (omega (arith, e)))

any_pair : (test : ℕ × ℕ → Bool) (xs ys : List ℕ) → length ys ≡ length xs
    → list_any test (zip xs ys) ≡ any_below (length xs) (λ k. test (get_or xs k 0, get_or ys k 0))
any_pair test xs ys e =
    ap (list_any test) (pairs xs ys e) ∙ as_any test _ ∙ any-tabulate test (length xs) (λ k. (get_or xs k 0, get_or ys k 0))

-- an iterator over both lists
pub both : (processes states : List ℕ) {s : Zip (Iter ℕ) (Iter ℕ)} → iter_rest (zip_first s) ≡ processes → iter_rest (zip_second s) ≡ states
    → YieldsList (zips fronts fronts) (λ p. (p.0.now, p.1.now)) s (zip processes states)
both processes states e e' = YieldsList-from_zip (YieldsList-from_slice processes e) (YieldsList-from_slice states e')

-- what stands at place k of the two lists
pub record NamedAt (processes states : List ℕ) (k p c : ℕ) : Type 0 where
  pub there : k < length processes
  pub process_is : get_or processes k 0 ≡ p
  pub state_is : get_or states k 0 ≡ c

module _ {n : ℕ} {processes states : List ℕ} (lists : Parallel n processes states) where
  pub pairs_length : length (zip processes states) ≡ length processes
  pairs_length = ap length (pairs processes states lists.for_each) ∙ length-tabulate (length processes) _

  pub named_at : (k : ℕ) → k < length (zip processes states) → {p : ℕ × ℕ} → p ≡ get_or (zip processes states) k p
      → NamedAt processes states k p.0 p.1
  named_at k l {p} e =
      let there : k < length processes = omega (arith, pairs_length) in
      let is : p ≡ (get_or processes k 0, get_or states k 0) =
      e ∙ ap (λ (r : List (ℕ × ℕ)). get_or r k p) (pairs processes states lists.for_each) ∙ get_or_tabulate (length processes) _ k p there in
      record { there = there; process_is = sym (ap (λ (r : ℕ × ℕ). r.0) is); state_is = sym (ap (λ (r : ℕ × ℕ). r.1) is) }

  pub known_at : (k : ℕ) → k < length (zip processes states) → {p : ℕ × ℕ} → p ≡ get_or (zip processes states) k p → p.0 < n
  known_at k l e =
      let here = named_at k l e in
      omega (arith, here.process_is, lists.known k here.there)

-- ---- a process of N or above
pub unknown_found : (t : Table) (processes : List ℕ) {n : ℕ} → n ≡ process_count t → list_any (leb n) processes ≡ unknown_named t processes
unfolding unknown_named
unknown_found t processes e = ap (λ (n : ℕ). list_any (leb n) processes) e ∙ any_entry (leb (process_count t)) processes

-- ---- a number that is not below its count
pub not_below_found : (table : List ℕ) → table_refusal table ≡ 0 → (processes states : List ℕ)
    → Parallel (process_count (decode table)) processes states
    → {counts : List ℕ} → counts ≡ array_of (decode table).counts
    → list_any (λ p. leb (get_or counts p.0 0) p.1) (zip processes states) ≡ not_below_counts (decode table) processes states
unfolding not_below_counts count_of process_count
not_below_found table accepted processes states lists {counts} is-array =
    any_pair (λ p. leb (get_or counts p.0 0) p.1) processes states lists.for_each
    ∙ any_below_ext _ _ (length processes)
    (λ k _.
    ap (λ (x : ℕ). leb x (get_or states k 0))
    (ap (λ (a : List ℕ). get_or a (get_or processes k 0) 0) is-array
    ∙ array_at (decode table).counts (processes_few table accepted) (get_or processes k 0)))

-- ---- a number that the line misses
pub missed_found : {n : ℕ} (processes states line : List ℕ) → Parallel n processes states
    → list_any (λ p. not (eqb (get_or line p.0 0) p.1)) (zip processes states) ≡ misses processes states line
unfolding misses
missed_found processes states line lists = any_pair (λ p. not (eqb (get_or line p.0 0) p.1)) processes states lists.for_each

-- ---- a loop that puts the named numbers into an array of the counts
-- the lists, beside an accepted table
pub record NamedIn (table processes states : List ℕ) : Type 0 where
  pub accepted : table_refusal table ≡ 0
  pub lists : Parallel (process_count (decode table)) processes states

-- It has put the first k.
pub record NamedPut (table processes states ceiling : List ℕ) (k : ℕ) : Type 0 where
  pub given : NamedIn table processes states
  pub within : k ≤ length processes
  pub put : ceiling ≡ array_of (put_named k processes states (decode table).counts)

module _ {table processes states : List ℕ} where
  pub put_none : NamedIn table processes states → {ceiling : List ℕ} → ceiling ≡ array_of (decode table).counts
      → NamedPut table processes states ceiling 0
  unfolding put_named
  put_none given read = record { given = given; within = zero-le; put = read }

  module _ {ceiling : List ℕ} {k : ℕ} (w : NamedPut table processes states ceiling k) where
    pub put_more : {p v : ℕ} → NamedAt processes states k p v → NamedPut table processes states (set ceiling p v) (k + 1)
    unfolding put_named process_count
    put_more {p} {v} here =
        let before : List ℕ = put_named k processes states (decode table).counts in
        let size : length before ≡ length (decode table).counts = put_length processes states k (decode table).counts in
        record {
          given = w.given;
          within = omega (arith, here.there);
          put =
              ap (λ (a : List ℕ). set a p v) w.put
              ∙ array_set before p v (omega (arith, size, here.process_is, w.given.lists.known k here.there))
              (omega (arith, size, processes_few table w.given.accepted))
              ∙ ap₂ (λ (i x : ℕ). array_of (set before i x)) (sym here.process_is) (sym here.state_is)
              ∙ ap (λ (j : ℕ). array_of (put_named j processes states (decode table).counts)) (sym (add-one k));
        }

    pub put_all : k ≡ length processes → ceiling ≡ array_of (named_ceiling (decode table) processes states)
    unfolding named_ceiling
    put_all l =
        w.put ∙ ap (λ (j : ℕ). array_of (put_named j processes states (decode table).counts)) l

-- the line under that array
pub line_put : (table : List ℕ) → table_refusal table ≡ 0 → (processes states : List ℕ) {ceiling : List ℕ}
    → ceiling ≡ array_of (named_ceiling (decode table) processes states)
    → line_under (decode table).messages ceiling ≡ array_of (named_line (decode table) processes states)
unfolding named_line named_ceiling process_count
line_put table accepted processes states put =
    ap (line_under (decode table).messages) put
    ∙ array_line (decode table).messages _
    (omega (arith, put_length processes states (length processes) (decode table).counts, processes_few table accepted))

-- ---- the line, found as an array
module _ (table : List ℕ) (accepted : table_refusal table ≡ 0) (processes states : List ℕ) {line : List ℕ}
    (found : line ≡ array_of (named_line (decode table) processes states)) where
  line_size : length (named_line (decode table) processes states) ≡ process_count (decode table)
  unfolding named_line named_ceiling process_count
  line_size = line_length (decode table).messages _ ∙ put_length processes states (length processes) (decode table).counts

  pub misses_found : misses processes states line ≡ misses processes states (named_line (decode table) processes states)
  unfolding misses
  misses_found =
      any_below_ext _ _ (length processes)
      (λ k _.
      ap (λ (x : ℕ). not (eqb x (get_or states k 0)))
      (ap (λ (a : List ℕ). get_or a (get_or processes k 0) 0) found
      ∙ array_at (named_line (decode table) processes states) (omega (arith, line_size, processes_few table accepted)) (get_or processes k 0)))

  pub line_found : take (process_count (decode table)) line ≡ named_line (decode table) processes states
  line_found =
      array_front (named_line (decode table) processes states) line (process_count (decode table)) found (sym line_size)
      (omega (arith, line_size, processes_few table accepted))
