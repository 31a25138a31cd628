-- A loop that writes the lines of single holders, one behind another, to the front of a scratch.
--     holder_line_lem                  the line of a holder, as that of a set of one
--     ToLine                       what the loop was given and read
--     Lining                       its invariant
--     lining_none, lining_all      how it begins and ends
--     lining_mark, lining_more     a turn
-- Assumes nothing.
use mathlib.Core.Bool.{Bool, cond, false}
use mathlib.Core.List.{List}
use mathlib.Core.Path.{◌≡◌, sym, ap, ◌∙◌}
use Prim.Native.Nat.{ℕ, ◌+◌, ◌-◌, ◌*◌, ◌^◌, ◌<◌, ◌≤◌}
use native.Mathlib.Omega.{arith}
use lib.ListN.{length, get_or, take}
use Rattle.consistency.proofs.HolderLaws.{holder_length}
use Rattle.consistency.specs.Ceilings.{ceiling_of, holder_line, holder_lines, line_of, single}
use Rattle.consistency.specs.Lowering.{line_under}
use Rattle.holder_lines.specs.Propagation.{propagates_from}
use Rattle.lines.proofs.LineReads.{set_front}
use Rattle.number_writer.proofs.WriteLaws.{Written, written_all, written_more, written_none}
use Rattle.process_set.proofs.SetLaws.{member_one}
use Rattle.process_set.specs.Sets.{member}
use Rattle.tables.proofs.ListLaws.{get_or_tabulate, tabulate_ext}
use Rattle.tables.proofs.ReadLaws.{processes_few}
use Rattle.tables.specs.Arrays.{array_of}
use Rattle.tables.specs.Checks.{table_refusal}
use Rattle.tables.specs.Format.{decode}
use Rattle.tables.specs.Lists.{tabulate}
use Rattle.tables.specs.Numbers.{put_at}
use Rattle.tables.specs.Table.{Table, count_of, most_processes, process_count}

holder_line_lem : (t : Table) (k : ℕ) → line_of t (member (2 ^ k)) ≡ holder_line t k
unfolding line_of ceiling_of single holder_line
holder_line_lem t k =
    ap (line_under t.messages)
    (tabulate_ext (process_count t) _ _ (λ p _. ap (λ (b : Bool). cond b (count_of t p - 1) (count_of t p)) (member_one k p)))

-- An accepted table, its number of processes, and from which a rollback propagates.
pub record ToLine (bytes : List ℕ) (n : ℕ) (propagates : List Bool) : Type 0 where
  pub accepted : table_refusal bytes ≡ 0
  pub n_is : n ≡ process_count (decode bytes)
  pub few : n ≤ most_processes
  pub marks : propagates ≡ tabulate 32 (propagates_from (decode bytes))

-- The first k lines stand at the front.
pub record Lining (bytes before : List ℕ) (n : ℕ) (propagates : List Bool) (after : List ℕ) (k : ℕ) : Type 0 where
  pub given : ToLine bytes n propagates
  pub written : Written n (holder_line (decode bytes)) n 0 before after k

module _ {bytes before : List ℕ} {n : ℕ} {propagates : List Bool} where
  pub lining_none : table_refusal bytes ≡ 0 → process_count (decode bytes) * process_count (decode bytes) ≤ length before
      → n ≡ process_count (decode bytes) → propagates ≡ tabulate 32 (propagates_from (decode bytes)) → Lining bytes before n propagates before 0
  lining_none accepted room n_is marks = record {
    given = record { accepted = accepted; n_is = n_is; few = omega (arith, n_is, processes_few bytes accepted); marks = marks };
    written = written_none n _ n 0 before (rw n_is (omega arith));
  }

  module _ {after : List ℕ} {k : ℕ} (h : Lining bytes before n propagates after k) where
    each : (j : ℕ) → length (holder_line (decode bytes) j) ≡ n
    each j = holder_length (decode bytes) j ∙ sym h.given.n_is

    pub lining_all : n ≤ k → after ≡ put_at before 0 (holder_lines (decode bytes))
    unfolding holder_lines
    lining_all l = rw h.given.n_is at (written_all n _ n 0 before each after k h.written l)

    pub lining_mark : {j : ℕ} → j < n → get_or propagates j false ≡ propagates_from (decode bytes) j
    lining_mark {j} l = ap (λ (marks : List Bool). get_or marks j false) h.given.marks ∙ get_or_tabulate 32 _ j _ (omega (arith, h.given.few))

    -- the first n numbers of the line of holder k are stored
    pub lining_more : {line later : List ℕ} → k < n → line ≡ array_of (line_of (decode bytes) (member (2 ^ k)))
        → later ≡ put_at after (n * k) (take n line) → Lining bytes before n propagates later (k + 1)
    lining_more {line} l found put = record {
      given = h.given;
      written = written_more n _ n 0 before each after k h.written l (n * k) _ (omega arith) (put ∙ ap (put_at after (n * k)) front);
    }
      where
        front : take n line ≡ holder_line (decode bytes) k
        front =
            ap (λ (x : ℕ). take x line) h.given.n_is ∙ set_front bytes h.given.accepted (2 ^ k) line found ∙ holder_line_lem (decode bytes) k
