-- Laws of the lines of single holders.
--     holder_latest                  each is the latest consistent line at which its holder stands at no later than its last checkpoint
--     holder_length, lines-length    each has N numbers, and all of them N × N
-- Assumes nothing.
use mathlib.Core.Bool.{cond}
use mathlib.Core.Path.{◌≡◌, refl}
use Prim.Native.Nat.{ℕ, ◌*◌, ◌-◌}
use lib.Dec.{eqb}
use lib.ListN.{length}
use Rattle.consistency.proofs.CeilingLaws.{set-latest, set-length, single_at}
use Rattle.consistency.proofs.LineLaws.{latest_same}
use Rattle.consistency.specs.Ceilings.{ceiling_of, holder_line, holder_lines, line_of, single}
use Rattle.consistency.specs.Lines.{Latest, as_line}
use Rattle.tables.proofs.ListLaws.{rows-length}
use Rattle.tables.specs.Table.{Table, count_of, process_count}

module _ (t : Table) where
  pub holder_latest : (k : ℕ) → Latest t.messages (λ p. cond (eqb p k) (count_of t p - 1) (count_of t p)) (as_line (holder_line t k))
  unfolding holder_line
  holder_latest k =
      let line = as_line (line_of t (single k)) in
      latest_same t.messages (as_line (ceiling_of t (single k))) _ line line (single_at t k) (λ p. refl) (set-latest t (single k))

  pub holder_length : (k : ℕ) → length (holder_line t k) ≡ process_count t
  unfolding holder_line
  holder_length k = set-length t (single k)

  pub lines-length : length (holder_lines t) ≡ process_count t * process_count t
  unfolding holder_lines
  lines-length = rows-length (holder_line t) (process_count t) holder_length (process_count t)
