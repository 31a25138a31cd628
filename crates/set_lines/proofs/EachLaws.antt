-- The lines of sets, from the lines of single holders, put one after another into a buffer.
--     ToPut                        what the loop was given and read
--     line_long                    what it asks for: a line of n numbers
--     set_line                     the minimum of the members' lines is the line of the set
--     PutsLines                    its invariant
--     puts_none, puts_all          how it begins and ends
--     puts_more                    a turn
-- Assumes nothing.
use mathlib.Core.List.{List}
use mathlib.Core.Path.{◌≡◌, sym, ap, ◌∙◌}
use Prim.Native.Nat.{ℕ, ◌+◌, ◌*◌, ◌≤◌, ◌<◌}
use native.Mathlib.Nat.{mul-suc}
use native.Mathlib.Numerals.{add-one}
use native.Mathlib.Omega.{arith}
use lib.ListN.{length, get_or, take}
use lib.Seq.{ext_get_or, get_or-take, length-take-le}
use Rattle.consistency.proofs.CeilingLaws.{line_smallest, set-length, smallest_same}
use Rattle.consistency.specs.Ceilings.{holder_line, line_of, smallest}
use Rattle.consistency.specs.Lines.{Line, as_line}
use Rattle.holder_lines.proofs.ScratchLaws.{entry_is}
use Rattle.holder_lines.specs.Scratch.{LinesOf, lines_in}
use Rattle.number_writer.proofs.WriteLaws.{Written, written_all, written_more, written_none}
use Rattle.process_set.specs.Sets.{member}
use Rattle.tables.proofs.AcceptLaws.{facts}
use Rattle.tables.proofs.ArrayLaws.{array_at, array_length}
use Rattle.tables.proofs.NumberLaws.{all-rows, length-u16s}
use Rattle.tables.proofs.ReadLaws.{processes_few}
use Rattle.tables.specs.Arrays.{Filled, array_of}
use Rattle.tables.specs.Format.{decode}
use Rattle.tables.specs.Lists.{rows}
use Rattle.tables.specs.Numbers.{put_at, u16s}
use Rattle.tables.specs.Table.{Table, count_of, process_count}

-- An accepted table, a scratch with the lines of its single holders, its number of processes and its counts.
pub record ToPut (bytes scratch : List ℕ) (n : ℕ) (counts : List ℕ) : Type 0 where
  pub given : LinesOf bytes scratch
  pub n_is : n ≡ process_count (decode bytes)
  pub counts_are : counts ≡ array_of (decode bytes).counts

module _ {bytes scratch : List ℕ} {n : ℕ} {counts : List ℕ} (w : ToPut bytes scratch n counts) where
  abbrev t : Table
  t = decode bytes

  few : n ≤ 32
  few = omega (arith, w.n_is, processes_few bytes w.given.accepted)

  -- the minimum of the counts and of the members' lines
  module _ (set : ℕ) {line : List ℕ} (found : Filled (smallest n (member set) (lines_in scratch n) (as_line counts)) n counts line) where
    pub line_long : n ≤ length line
    line_long = omega (arith, found.same_length, ap length w.counts_are, array_length t.counts, few)

    pub set_line : take n line ≡ line_of t (member set)
    unfolding holder_line count_of process_count
    set_line =
        let size = length-take-le n line line_long in
        ext_get_or 0 (take n line) (line_of t (member set)) (size ∙ w.n_is ∙ sym (set-length t (member set)))
        (λ p l. at_process p (omega (arith, size)))
      where
        singles : ℕ → Line
        singles i = as_line (holder_line t i)

        member_line : (p i : ℕ) → p < n → i < n → lines_in scratch n i p ≡ singles i p
        member_line p i b l =
            ap (λ (x : ℕ). lines_in scratch x i p) w.n_is ∙ entry_is w.given i p (omega (arith, w.n_is)) (omega (arith, w.n_is))

        count_at_lem : (p : ℕ) → as_line counts p ≡ count_of t p
        count_at_lem p = ap (λ (x : List ℕ). as_line x p) w.counts_are ∙ array_at t.counts (omega (arith, few, w.n_is)) p

        at_process : (p : ℕ) → p < n → get_or (take n line) p 0 ≡ as_line (line_of t (member set)) p
        at_process p b =
            get_or-take n line p 0 b ∙ found.front p b (omega (arith, line_long, found.same_length))
            ∙ smallest_same (member set) (lines_in scratch n) singles (as_line counts) (count_of t) p n (λ i l. member_line p i b l) (count_at_lem p)
            ∙ ap (λ (x : ℕ). smallest x (member set) singles (count_of t) p) w.n_is
            ∙ sym (line_smallest t (facts bytes w.given.accepted).well_formed (member set) p)

-- The lines of the first k sets stand at the front, and the next one follows at its place.
pub record PutsLines (bytes sets scratch before : List ℕ) (n : ℕ) (counts after : List ℕ) (at k : ℕ) : Type 0 where
  pub to_put : ToPut bytes scratch n counts
  pub behind : at ≡ 2 * n * k
  pub written : Written (2 * n) (λ j. u16s (line_of (decode bytes) (member (get_or sets j 0)))) (length sets) 0 before after k

module _ {bytes sets scratch before : List ℕ} {n : ℕ} {counts : List ℕ} where
  pub puts_none : ToPut bytes scratch n counts → 2 * process_count (decode bytes) * length sets ≤ length before
      → PutsLines bytes sets scratch before n counts before 0 0
  puts_none to_put room =
      record { to_put = to_put; behind = omega arith; written = written_none (2 * n) _ (length sets) 0 before (rw to_put.n_is (omega arith)) }

  module _ {after : List ℕ} {at k : ℕ} (h : PutsLines bytes sets scratch before n counts after at k) where
    abbrev line : ℕ → List ℕ
    line j = line_of (decode bytes) (member (get_or sets j 0))

    each : (j : ℕ) → length (u16s (line j)) ≡ 2 * n
    each j = omega (arith, length-u16s (line j), set-length (decode bytes) (member (get_or sets j 0)), h.to_put.n_is)

    pub puts_all : length sets ≤ k → after ≡ put_at before 0 (u16s (rows line (length sets)))
    puts_all l =
        written_all (2 * n) _ (length sets) 0 before each after k h.written l ∙ ap (put_at before 0) (sym (all-rows 2 line (length sets)))

    pub puts_more : k < length sets → {found later : List ℕ}
        → Filled (smallest n (member (get_or sets k 0)) (lines_in scratch n) (as_line counts)) n counts found
        → later ≡ put_at after at (u16s (take n found)) → PutsLines bytes sets scratch before n counts later (at + 2 * n) (k + 1)
    puts_more l is-minimum put = record {
      to_put = h.to_put;
      behind = omega (arith, h.behind, mul-suc (2 * n) k, ap (λ (j : ℕ). 2 * n * j) (add-one k));
      written =
          written_more (2 * n) _ (length sets) 0 before each after k h.written l at _ (omega (arith, h.behind))
          (put ∙ ap (λ (x : List ℕ). put_at after at (u16s x)) (set_line h.to_put (get_or sets k 0) is-minimum));
    }
