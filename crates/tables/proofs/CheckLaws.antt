-- Laws of the checks.
--     passed, stopped, quiet_none     the first check of a list that catches
--     quiet_cons, caught_by, quiet_number    none of a list catches, it is quiet: its first check, and the check of any number
--     append_stopped, append_passed, append_alike, caught_first, quiet_front    further checks behind a list
--     outside_zero, outside_above, inside    a number and its limit
--     not_short, processes_checked, messages_checked, length_checked    checks 1 to 4, by the sizes that were read
-- Assumes nothing.
use mathlib.Core.Bool.{Bool, true, false, cond, not, or-true, ◌&&◌}
use mathlib.Core.List.{List, [], ◌∷◌, ◌++◌}
use mathlib.Core.Path.{◌≡◌, refl, sym, ap}
use Prim.Native.Nat.{ℕ, zero, suc, ◌<◌, ◌≤◌}
use native.Mathlib.Omega.{arith}
use borrow.Author.Tests.{le-ltb, lt-ltb, ltb-true, ne_eqb}
use lib.Dec.{eqb, ltb}
use lib.ListN.{length}
use Rattle.tables.proofs.FormatLaws.{ReadSizes}
use Rattle.tables.proofs.ListLaws.{and_left, and_right}
use Rattle.tables.specs.Checks.{Check, bad_length, bad_process_count, first_caught, outside, table_checks, too_many_messages, too_short}
use Rattle.tables.specs.Format.{messages_in, processes_in, table_length}
use Rattle.tables.specs.Table.{most_messages, most_processes}

-- a check that catches nothing is passed over; one that catches gives its number; a list that ends gives 0
pub passed : (c : Check) (rest : List Check) (n : ℕ) → c.caught ≡ false → first_caught rest ≡ n → first_caught (c ∷ rest) ≡ n
unfolding first_caught
passed c rest n e later = rw e later

pub stopped : (c : Check) (rest : List Check) → c.caught ≡ true → first_caught (c ∷ rest) ≡ c.number
unfolding first_caught
stopped c rest e = rw e

pub quiet_none : first_caught [] ≡ 0
unfolding first_caught
quiet_none = refl

-- where a list of refusals catches nothing, neither its first check does nor the rest
pub quiet_cons : (c : Check) (rest : List Check) → 0 < c.number → first_caught (c ∷ rest) ≡ 0 → (c.caught ≡ false) × (first_caught rest ≡ 0)
unfolding first_caught
quiet_cons c rest positive e = go c.caught e
  where
    go : (b : Bool) → cond b c.number (first_caught rest) ≡ 0 → (b ≡ false) × (first_caught rest ≡ 0)
    go true e = absurd (omega arith)
    go false e = (refl, e)

-- further checks behind a list: they matter where the list catches nothing, if each of its numbers is a refusal's
pub append_stopped : (xs ys : List Check) (n : ℕ) → first_caught xs ≡ suc n → first_caught (xs ++ ys) ≡ suc n
unfolding first_caught
append_stopped [] ys n e = absurd (omega arith)
append_stopped (c ∷ rest) ys n e = go c.caught e (append_stopped rest ys n)
  where
    go : (b : Bool) → cond b c.number (first_caught rest) ≡ suc n → (first_caught rest ≡ suc n → first_caught (rest ++ ys) ≡ suc n)
        → cond b c.number (first_caught (rest ++ ys)) ≡ suc n
    go true e later = e
    go false e later = later e

-- two lists that refuse alike, behind the same checks
pub append_alike : (xs ys ys' : List Check) → first_caught ys ≡ first_caught ys' → first_caught (xs ++ ys) ≡ first_caught (xs ++ ys')
unfolding first_caught
append_alike [] ys ys' e = e
append_alike (c ∷ rest) ys ys' e = ap (cond c.caught c.number) (append_alike rest ys ys' e)

-- the number of a check that catches stays, whatever checks stand behind; where a list catches nothing, neither does its first part
pub caught_first : (xs ys : List Check) (r : ℕ) → r ≡ first_caught xs → (r ≡ 0 → ⊥) → r ≡ first_caught (xs ++ ys)
caught_first xs ys zero e nonzero = absurd (nonzero refl)
caught_first xs ys (suc n) e nonzero = sym (append_stopped xs ys n (sym e))

pub quiet_front : (xs ys : List Check) → first_caught (xs ++ ys) ≡ 0 → first_caught xs ≡ 0
quiet_front xs ys quiet = go (first_caught xs) refl
  where
    go : (k : ℕ) → first_caught xs ≡ k → first_caught xs ≡ 0
    go zero e = e
    go (suc n) e = absurd (omega (arith, append_stopped xs ys n e))

unfoldable pub are_refusals : List Check → Bool
are_refusals [] = true
are_refusals (c ∷ rest) = ltb 0 c.number && are_refusals rest

-- Whether the check of a number catches: the first of a list that has it.
unfoldable pub caught_by : ℕ → List Check → Bool
caught_by n [] = false
caught_by n (c ∷ rest) = cond (eqb n c.number) c.caught (caught_by n rest)

-- where a list of refusals catches nothing, the check of each number is quiet, wherever it stands
pub quiet_number : (checks : List Check) → are_refusals checks ≡ true → first_caught checks ≡ 0 → (n : ℕ) → caught_by n checks ≡ false
unfolding are_refusals caught_by
quiet_number [] p e n = refl
quiet_number (c ∷ rest) p e n =
    let both = quiet_cons c rest (ltb-true 0 c.number (and_left (ltb 0 c.number) (are_refusals rest) p)) e in
    go (eqb n c.number) both.0 (quiet_number rest (and_right (ltb 0 c.number) (are_refusals rest) p) both.1 n)
  where
    go : (b : Bool) → c.caught ≡ false → caught_by n rest ≡ false → cond b c.caught (caught_by n rest) ≡ false
    go true here later = here
    go false here later = later

pub append_passed : (xs ys : List Check) → are_refusals xs ≡ true → first_caught xs ≡ 0 → first_caught (xs ++ ys) ≡ first_caught ys
unfolding are_refusals
append_passed [] ys p e = refl
append_passed (c ∷ rest) ys p e =
    let both = quiet_cons c rest (ltb-true 0 c.number (and_left (ltb 0 c.number) (are_refusals rest) p)) e in
    passed c (rest ++ ys) _ both.0 (append_passed rest ys (and_right (ltb 0 c.number) (are_refusals rest) p) both.1)

pub table_refusals : (bytes : List ℕ) → are_refusals (table_checks bytes) ≡ true
unfolding are_refusals table_checks
table_refusals bytes = refl

-- ---- a number that is 0 or above a limit, and one that is neither
module _ (limit n : ℕ) where
  pub outside_zero : n ≡ 0 → outside limit n ≡ true
  unfolding outside
  outside_zero z = rw z

  pub outside_above : limit < n → outside limit n ≡ true
  unfolding outside
  outside_above l = rw (lt-ltb limit n l) (or-true (eqb n 0))

  pub inside : (n ≡ 0 → ⊥) → n ≤ limit → outside limit n ≡ false
  unfolding outside
  inside z l = rw (ne_eqb n 0 z, le-ltb limit n l)

-- ---- checks 1 to 4
module _ (bytes : List ℕ) where
  pub not_short : 4 ≤ length bytes → too_short bytes ≡ false
  unfolding too_short
  not_short l = le-ltb (length bytes) 4 l

module _ {bytes : List ℕ} {n m : ℕ} (read : ReadSizes bytes n m) where
  -- checks 2 to 4, by the sizes that were read
  pub processes_checked : bad_process_count bytes ≡ outside most_processes n
  unfolding bad_process_count processes_in
  processes_checked = ap (outside most_processes) (sym read.n_is)

  pub messages_checked : too_many_messages bytes ≡ ltb most_messages m
  unfolding too_many_messages messages_in
  messages_checked = ap (ltb most_messages) (sym read.m_is)

  pub length_checked : bad_length bytes ≡ not (eqb (length bytes) (table_length n m))
  unfolding bad_length messages_in processes_in
  length_checked = rw (read.n_is, read.m_is)
