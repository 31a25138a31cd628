-- Ceilings that a caller lends, as the code reads them.
--     chosen_above    a chain over the ceilings and the counts finds one that is above its count
--     under_read                               the line under an array of ceilings, its first N numbers
-- Assumes nothing.
use mathlib.Core.Bool.{Bool, ◌||◌}
use mathlib.Core.List.{List, [], ◌∷◌}
use mathlib.Core.Path.{◌≡◌, refl, sym, ap, ◌∙◌}
use Prim.Native.Nat.{ℕ, ◌≤◌}
use native.Mathlib.Nat.{le_of_suc-le-suc, not-suc-le-zero}
use native.Mathlib.Omega.{arith}
use lib.Dec.{ltb}
use lib.ListN.{length, get_or, take}
use Rattle.consistency.proofs.LoweringLaws.{line_length}
use Rattle.consistency.specs.Ceilings.{above_counts}
use Rattle.consistency.specs.Lowering.{line_under}
use Rattle.lines.proofs.LineReads.{array_line}
use Rattle.std.specs.List.{list_any, zip}
use Rattle.tables.proofs.ArrayLaws.{array_at, array_front, array_length}
use Rattle.tables.proofs.ListLaws.{any-tabulate, any_below_ext}
use Rattle.tables.proofs.ReadLaws.{processes_few}
use Rattle.tables.specs.Arrays.{array_of}
use Rattle.tables.specs.Checks.{table_refusal}
use Rattle.tables.specs.Format.{decode}
use Rattle.tables.specs.Lists.{any, any_below, tabulate}
use Rattle.tables.specs.Table.{Message, count_of, process_count}

-- ---- what a chain over two lists finds
pairs : (xs ys : List ℕ) → length xs ≤ length ys → zip xs ys ≡ tabulate (length xs) (λ k. (get_or xs k 0, get_or ys k 0))
unfolding tabulate
pairs [] ys l = refl
pairs (x ∷ xs) [] l = absurd (not-suc-le-zero l)
pairs (x ∷ xs) (y ∷ ys) l = ap (λ (r : List (ℕ × ℕ)). (x, y) ∷ r) (pairs xs ys (le_of_suc-le-suc l))

as_any : {A : Type 0} (test : A → Bool) (l : List A) → list_any test l ≡ any test l
unfolding any
as_any test [] = refl
as_any test (x ∷ rest) = ap (λ (r : Bool). test x || r) (as_any test rest)

any_pair : (test : ℕ × ℕ → Bool) (xs ys : List ℕ) → length xs ≤ length ys
    → list_any test (zip xs ys) ≡ any_below (length xs) (λ k. test (get_or xs k 0, get_or ys k 0))
any_pair test xs ys l =
    ap (list_any test) (pairs xs ys l) ∙ as_any test _ ∙ any-tabulate test (length xs) (λ k. (get_or xs k 0, get_or ys k 0))

-- the ceilings beside the counts
pub chosen_above : (table : List ℕ) → table_refusal table ≡ 0 → (ceilings : List ℕ) → length ceilings ≡ process_count (decode table)
    → {counts : List ℕ} → counts ≡ array_of (decode table).counts
    → list_any (λ p. ltb p.1 p.0) (zip ceilings counts) ≡ above_counts (decode table) ceilings
unfolding above_counts count_of process_count
chosen_above table accepted ceilings e {counts} is-array =
    let few : length (decode table).counts ≤ 32 = processes_few table accepted in
    let size : length counts ≡ 32 = ap length is-array ∙ array_length (decode table).counts in
    any_pair (λ p. ltb p.1 p.0) ceilings counts (omega arith)
    ∙ ap (λ (n : ℕ). any_below n (λ k. ltb (get_or counts k 0) (get_or ceilings k 0))) e
    ∙ any_below_ext _ _ (length (decode table).counts)
    (λ k _. ap (λ (x : ℕ). ltb x (get_or ceilings k 0)) (ap (λ (a : List ℕ). get_or a k 0) is-array ∙ array_at (decode table).counts few k))

-- ---- the line under an array of ceilings
pub under_read : (table : List ℕ) → table_refusal table ≡ 0 → (ceilings : List ℕ) → length ceilings ≡ process_count (decode table)
    → {array : List ℕ} → array ≡ array_of ceilings → (ms : List Message) {line : List ℕ} → line ≡ line_under ms array
    → take (process_count (decode table)) line ≡ line_under ms ceilings
under_read table accepted ceilings e is-array ms {line} is-line =
    let few : length ceilings ≤ 32 = omega (arith, processes_few table accepted) in
    let size : length (line_under ms ceilings) ≡ process_count (decode table) = line_length ms ceilings ∙ e in
    array_front (line_under ms ceilings) line (process_count (decode table)) (is-line ∙ ap (line_under ms) is-array ∙ array_line ms ceilings few) (sym size)
    (omega (arith, size))
