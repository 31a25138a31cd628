-- The bits of a process in a lent buffer, and a row of them that is set.
--     row_onwards                       in the row of a process, behind a set bit all are set
--     row_here, row_below, row_other    the states whose bits were set, and the others
--     row_stay, row_kept                what was set stays so, and no byte beyond the marks is changed
--     kept_none, kept_both, lent_kept   nothing changed; one change after another; there is room still
-- Assumes nothing.
use mathlib.Core.Bool.{true}
use mathlib.Core.List.{List}
use mathlib.Core.Path.{◌≡◌, refl, ◌∙◌, subst, subst⁻¹}
use Prim.Native.Nat.{ℕ, suc, ◌+◌, ◌-◌, ◌≤◌, ◌<◌}
use native.Mathlib.Decide.{dec_le, dec_lt}
use native.Mathlib.Omega.{arith}
use Rattle.marked_line.specs.Marking.{Kept, Lent, Ready}
use Rattle.marks.proofs.LayoutLaws.{first_apart, first_more, process_inside}
use Rattle.marks.specs.Bits.{Onwards, SetFrom, bit_at, first_bit, marked_in}
use Rattle.tables.specs.Table.{Table, count_of, process_count}

-- ---- a row that is set
module _ (t : Table) (p : ℕ) (known : p < process_count t) (r : ℕ) where
  abbrev from : ℕ
  from = first_bit t.counts p + r

  abbrev end : ℕ
  end = first_bit t.counts (suc p)

  end_is : end ≡ first_bit t.counts p + suc (count_of t p)
  unfolding count_of
  end_is = first_more t.counts p

  pub row_onwards : {roots buffer : List ℕ} → Ready t roots buffer → Onwards from end buffer
  unfolding marked_in
  row_onwards {buffer = buffer} u = record {
    next = λ b l inside e.
        let place : first_bit t.counts p + (b - first_bit t.counts p) ≡ b = omega arith in
        let next : first_bit t.counts p + suc (b - first_bit t.counts p) ≡ suc b = omega arith in
        subst (λ (b : ℕ). bit_at buffer b ≡ true) next
        (u.behind_marked p (b - first_bit t.counts p) known (omega (arith, end_is)) (subst⁻¹ (λ (b : ℕ). bit_at buffer b ≡ true) place e));
  }

  module _ {before after : List ℕ} (s : SetFrom from end before after) where
    pub row_here : (y : ℕ) → r ≤ y → y ≤ count_of t p → marked_in t after p y ≡ true
    unfolding marked_in
    row_here y l there = s.all_set (first_bit t.counts p + y) (omega arith) (omega (arith, end_is))

    pub row_below : (y : ℕ) → y < r → marked_in t after p y ≡ marked_in t before p y
    unfolding marked_in
    row_below y l = s.others (first_bit t.counts p + y) (λ h. omega arith)

    pub row_other : (q y : ℕ) → (q ≡ p → ⊥) → y ≤ count_of t q → marked_in t after q y ≡ marked_in t before q y
    unfolding marked_in count_of
    row_other q y other there = s.others (first_bit t.counts q + y) (λ h. go h (dec_lt q p))
      where
        go : from ≤ first_bit t.counts q + y → Dec (q < p) → end ≤ first_bit t.counts q + y
        go h (yes l) = absurd (omega (arith, first_apart t.counts q p l))
        go h (no l) = omega (arith, first_apart t.counts p q (omega arith), end_is)

    pub row_stay : (b : ℕ) → bit_at before b ≡ true → bit_at after b ≡ true
    row_stay b e = go (dec_le from b) (dec_lt b end)
      where
        go : Dec (from ≤ b) → Dec (b < end) → bit_at after b ≡ true
        go (yes l) (yes l') = s.all_set b l l'
        go (yes l) (no l') = s.others b (λ _. omega arith) ∙ e
        go (no l) _ = s.others b (λ h. absurd (l h)) ∙ e

    pub row_kept : Kept t before after
    row_kept = record { same_length = s.same_length; beyond = λ i l. s.beyond i (omega (arith, process_inside t p known)) }

-- ---- changes
pub kept_none : {t : Table} {buffer : List ℕ} → Kept t buffer buffer
kept_none = record { same_length = refl; beyond = λ i l. refl }

pub kept_both : {t : Table} {a b c : List ℕ} → Kept t a b → Kept t b c → Kept t a c
kept_both k k' = record { same_length = k'.same_length ∙ k.same_length; beyond = λ i l. k'.beyond i l ∙ k.beyond i l }

-- a buffer that was kept has room still
pub lent_kept : {t : Table} {roots before after : List ℕ} → Lent t roots before → Kept t before after → Lent t roots after
lent_kept lent k = record { for_each = lent.for_each; roots-there = lent.roots-there; room = omega (arith, lent.room, k.same_length) }
