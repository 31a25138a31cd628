-- Lines in a scratch.
--     cell_below               an entry's place is within n × n numbers
--     lines-stand              the lines of single holders, once they are put to the front of a scratch
--     entry_is, holds_lines    what stands in such a scratch, by its entries, and that it is as the code may ask
-- Assumes nothing.
use mathlib.Core.List.{List}
use mathlib.Core.Path.{◌≡◌, sym, ap, ◌∙◌}
use Prim.Native.Nat.{ℕ, ◌+◌, ◌*◌, ◌<◌, ◌≤◌}
use native.Mathlib.Nat.{mul-suc, mul-le-mul_left}
use native.Mathlib.Omega.{arith}
use lib.ListN.{length, get_or, take, drop, length-take}
use lib.Seq.{get_or-take, take_at}
use Rattle.consistency.proofs.HolderLaws.{holder_length, lines-length}
use Rattle.consistency.specs.Ceilings.{holder_line, holder_lines}
use Rattle.consistency.specs.Lines.{as_line}
use Rattle.holder_lines.specs.Scratch.{HoldsLines, LinesOf, lines_in}
use Rattle.tables.proofs.ListLaws.{rows_at}
use Rattle.tables.proofs.ReadLaws.{processes_few}
use Rattle.tables.specs.Format.{decode}
use Rattle.tables.specs.Numbers.{put_at}
use Rattle.tables.specs.Table.{Table, process_count}

pub cell_below : {n k i : ℕ} → k < n → i < n → n * k + i < n * n
cell_below {n} {k} l b = omega (arith, mul-suc n k, mul-le-mul_left n l)

pub lines-stand : (t : Table) (before after : List ℕ) → process_count t * process_count t ≤ length before
    → after ≡ put_at before 0 (holder_lines t) → take (process_count t * process_count t) after ≡ holder_lines t
unfolding put_at
lines-stand t before after room e =
    let size = process_count t * process_count t in
    ap (take size) e ∙ take_at (holder_lines t) (drop (0 + length (holder_lines t)) before) size (lines-length t)

module _ {bytes s : List ℕ} (given : LinesOf bytes s) where
  abbrev t : Table
  t = decode bytes

  abbrev N : ℕ
  N = process_count t

  pub entry_is : (k i : ℕ) → k < N → i < N → lines_in s N k i ≡ as_line (holder_line t k) i
  unfolding lines_in holder_lines
  entry_is k i l b =
      sym (get_or-take (N * N) s (N * k + i) 0 (cell_below l b)) ∙ ap (λ (x : List ℕ). get_or x (N * k + i) 0) given.lines
      ∙ rows_at (holder_line t) N (holder_length t) N k i 0 l b

  -- by the number of processes that the code read
  pub holds_lines : {n : ℕ} → n ≡ N → HoldsLines n s
  holds_lines n_is = rw n_is record {
    few = processes_few bytes given.accepted;
    room = omega (arith, ap length given.lines, lines-length t, length-take (N * N) s);
  }
