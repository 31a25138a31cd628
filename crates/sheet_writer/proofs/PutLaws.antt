-- Numbers put into a buffer, one after another.
--     put_written, put_length           what a writer has put; the buffer's length
--     put_room, put_then                more after what was put
--     PuttingNumbers, putting-..        a loop that puts one after another
--     column_below, laying-..           the loop over the kept checkpoints of a process
--     rows_none, row_room, row_more     a loop that puts one list after another
--     select_none, picked_skip, picked_room, picked_more    one that puts the numbers that pass a test
--     put_low                           numbers put by their low 16 bits
-- Assumes nothing.
use mathlib.Core.Bool.{Bool, true, false}
use mathlib.Core.List.{List, [], ◌∷◌, ◌++◌, map}
use mathlib.Core.Path.{◌≡◌, refl, sym, ap, ap₂, ◌∙◌, subst}
use Prim.Native.Nat.{ℕ, ◌+◌, ◌*◌, ◌%◌, ◌≤◌, ◌<◌, zero-le}
use native.Mathlib.Nat.{le_antisymm}
use native.Mathlib.Omega.{arith}
use lib.ListN.{length, length-append, length-map}
use Rattle.tables.proofs.ListLaws.{map-append, rows_more, rows_room, select_gap, select_more, select_room, select_skip}
use Rattle.tables.proofs.NumberLaws.{length-put_at, length-u16s, put_at_more, put_at_none, u16s-append}
use Rattle.sheet_entries.proofs.SearchLaws.{select_last, select_next}
use Rattle.tables.specs.Lists.{First, rows, select}
use Rattle.tables.specs.Numbers.{bytes_of, bytes_of_all, put_at, u16_bytes, u16s}
use Rattle.sheet_writer.specs.SheetParts.{column_at, number_in}
use Rattle.sheet_writer.specs.declared.writing.Column.{Column}
use Rattle.sheet_writer.specs.Writing.{Put}
use Rattle.sheet_writer.specs.Writers.{written}
use Rattle.sheet_writer.specs.declared.writer.SheetWriter.{SheetWriter}

pub put_written : (w : SheetWriter) (xs : List ℕ) → Put w.buffer.now (written w xs).buffer.now w.at xs (written w xs).at
put_written w xs = record { contents = refl; place = refl }

module _ {before after : List ℕ} {at : ℕ} {xs : List ℕ} {next : ℕ} (p : Put before after at xs next) where
  pub put_length : at + 2 * length xs ≤ length before → length after ≡ length before
  put_length room = ap length p.contents ∙ length-put_at before at (u16s xs) (omega (arith, length-u16s xs))

  -- what is put after it
  pub put_room : (ys : List ℕ) → at + 2 * length (xs ++ ys) ≤ length before → next + 2 * length ys ≤ length after
  put_room ys room = omega (arith, length-append xs ys, p.place, put_length (omega (arith, length-append xs ys)))

  pub put_then : {ys later : List ℕ} {end : ℕ} → Put after later next ys end → at + 2 * length (xs ++ ys) ≤ length before
      → Put before later at (xs ++ ys) end
  put_then {ys} q room = record {
    contents =
        q.contents ∙ ap₂ (λ (b : List ℕ) (i : ℕ). put_at b i (u16s ys)) p.contents (omega (arith, p.place, length-u16s xs))
        ∙ put_at_more before at (u16s xs) (u16s ys) (omega (arith, length-append xs ys, length-u16s xs, length-u16s ys))
        ∙ ap (put_at before at) (sym (u16s-append xs ys));
    place = omega (arith, length-append xs ys, p.place, q.place);
  }

-- ---- a loop that puts the numbers of f n, and has put those of f k, where f k goes up to f n
pub record PuttingNumbers (f : ℕ → List ℕ) (n : ℕ) (before : List ℕ) (at : ℕ) (after : List ℕ) (next k : ℕ) : Type 0 where
  pub within : k ≤ n
  pub room : at + 2 * length (f n) ≤ length before
  pub short : length (f k) ≤ length (f n)
  pub put : Put before after at (f k) next

module _ {f : ℕ → List ℕ} {n : ℕ} {before : List ℕ} {at : ℕ} where
  putting_none : {k : ℕ} → k ≤ n → f k ≡ [] → at + 2 * length (f n) ≤ length before → PuttingNumbers f n before at before at k
  unfolding bytes_of_all
  putting_none l e room =
      let nothing : Put before before at [] at = record { contents = sym (put_at_none before at); place = omega arith } in
      record { within = l; room = room; short = omega (arith, ap length e); put = rw e nothing }

  module _ {after : List ℕ} {next k : ℕ} (h : PuttingNumbers f n before at after next k) where
    pub putting_length : length after ≡ length before
    putting_length = put_length h.put (omega (arith, h.room, h.short))

    putting_room : (j : ℕ) → length (f k) + j ≤ length (f n) → next + 2 * j ≤ length after
    putting_room j l = omega (arith, h.room, h.put.place, putting_length)

    -- nothing to put from k to j
    putting_skip : {j : ℕ} → j ≤ n → f j ≡ f k → PuttingNumbers f n before at after next j
    putting_skip l e = record { within = l; room = h.room; short = omega (arith, h.short, ap length e); put = rw e h.put }

    putting_more : {later ys : List ℕ} {end j : ℕ} → Put after later next ys end → j ≤ n → f j ≡ f k ++ ys
        → length (f k) + length ys ≤ length (f n) → PuttingNumbers f n before at later end j
    putting_more {ys = ys} q l e fits = record {
      within = l;
      room = h.room;
      short = omega (arith, ap length e, length-append (f k) ys);
      put = rw e (put_then h.put q (omega (arith, h.room, length-append (f k) ys)));
    }

    pub putting_all : n ≤ k → Put before after at (f n) next
    putting_all l = subst (λ (j : ℕ). Put before after at (f j) next) (le_antisymm h.within l) h.put

-- ---- the loop over the kept checkpoints of process i, for one array of the sheet, that has put those below c
abbrev pub column_below : (ℕ → Bool) → Column → ℕ → ℕ → List ℕ
column_below test column i c = column_at column i (select test c)

module _ (test : ℕ → Bool) (column : Column) (i : ℕ) {limit : ℕ} {before : List ℕ} {at : ℕ} where
  pub laying_none : at + 2 * length (column_below test column i limit) ≤ length before
      → PuttingNumbers (column_below test column i) limit before at before at 0
  unfolding column_at select
  laying_none room = putting_none zero-le refl room

  module _ {after : List ℕ} {next from : ℕ} (h : PuttingNumbers (column_below test column i) limit before at after next from) where
    -- c is the next that is kept
    module _ {c : ℕ} (f : First test from limit c) (l : c < limit) where
      same : select test c ≡ select test from
      same = select_gap test from c f.from_on f.none_before

      fits : length (column_below test column i from) + 1 ≤ length (column_below test column i limit)
      unfolding column_at
      fits = simp length-map (omega (arith, ap length same, select_room test c limit l (f.passes l)))

      pub laying_room : next + 1 < length after
      laying_room = omega (arith, putting_room h 1 fits)

      -- its number v was put
      pub laying_more : {v : ℕ} {later : List ℕ} {end : ℕ} → v ≡ number_in column i c → Put after later next (v ∷ []) end
          → PuttingNumbers (column_below test column i) limit before at later end (c + 1)
      unfolding column_at
      laying_more {v} e put = putting_more h put (omega arith) grown fits
        where
          grown : column_below test column i (c + 1) ≡ column_below test column i from ++ (v ∷ [])
          grown =
              ap (column_at column i) (select_next f l) ∙ map-append (number_in column i) (select test from) (c ∷ [])
              ∙ ap (λ (x : ℕ). column_below test column i from ++ (x ∷ [])) (sym e)

    pub laying_all : First test from limit limit → Put before after at (column_below test column i limit) next
    laying_all f = rw (ap (column_at column i) (select_last f)) h.put

-- ---- a loop that puts one list after another
pub rows_none : (f : ℕ → List ℕ) {n : ℕ} {before : List ℕ} {at : ℕ} → at + 2 * length (rows f n) ≤ length before
    → PuttingNumbers (rows f) n before at before at 0
unfolding rows
rows_none f room = putting_none zero-le refl room

module _ (f : ℕ → List ℕ) {n : ℕ} {before : List ℕ} {at : ℕ} {after : List ℕ} {next i : ℕ}
    (h : PuttingNumbers (rows f) n before at after next i) (l : i < n) where
  pub row_room : next + 2 * length (f i) ≤ length after
  row_room = putting_room h _ (rows_room f i n l)

  pub row_more : {later : List ℕ} {end : ℕ} → Put after later next (f i) end → PuttingNumbers (rows f) n before at later end (i + 1)
  row_more put = putting_more h put (omega arith) (rows_more f i) (rows_room f i n l)

-- ---- a loop that puts the numbers that pass a test, by what was found of k
pub select_none : (test : ℕ → Bool) {n : ℕ} {before : List ℕ} {at : ℕ} → at + 2 * length (select test n) ≤ length before
    → PuttingNumbers (select test) n before at before at 0
unfolding select
select_none test room = putting_none zero-le refl room

module _ (test : ℕ → Bool) {n : ℕ} {before : List ℕ} {at : ℕ} {after : List ℕ} {next k : ℕ}
    (h : PuttingNumbers (select test) n before at after next k) (l : k < n) {r : Bool} (is : r ≡ test k) where
  pub picked_skip : r ≡ false → PuttingNumbers (select test) n before at after next (k + 1)
  picked_skip e = putting_skip h (omega arith) (select_skip test k (sym is ∙ e))

  module _ (e : r ≡ true) where
    fits_one : length (select test k) + 1 ≤ length (select test n)
    fits_one = select_room test k n l (sym is ∙ e)

    pub picked_room : next + 1 < length after
    picked_room = omega (arith, putting_room h 1 fits_one)

    pub picked_more : {later : List ℕ} {end : ℕ} → Put after later next (k ∷ []) end → PuttingNumbers (select test) n before at later end (k + 1)
    picked_more put = putting_more h put (omega arith) (select_more test k (sym is ∙ e)) fits_one

-- ---- the two bytes of a number are those of its low 16 bits
low_bits : (n : ℕ) → u16_bytes (n % 65536) ≡ u16_bytes n
unfolding bytes_of
low_bits n = ap₂ (λ (low high : ℕ). low ∷ high ∷ []) (omega arith) (omega arith)

low_all : (ns : List ℕ) → u16s (map (λ n. n % 65536) ns) ≡ u16s ns
unfolding bytes_of_all
low_all [] = refl
low_all (n ∷ rest) = ap₂ (λ (bytes more : List ℕ). bytes ++ more) (low_bits n) (low_all rest)

pub put_low : {before after : List ℕ} {at next : ℕ} (ns : List ℕ) → Put before after at (map (λ n. n % 65536) ns) next
    → Put before after at ns next
put_low {before} {at = at} ns p = record {
  contents = p.contents ∙ ap (put_at before at) (low_all ns);
  place = omega (arith, p.place, length-map ns (λ (n : ℕ). n % 65536));
}
