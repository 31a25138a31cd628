-- The parts of a table, put one after another.
--     pair_put, head_put, table_put   two numbers; the head of a table; a whole table, part by part
-- Assumes nothing.
use mathlib.Core.List.{List, [], ◌∷◌, ◌++◌, append_assoc}
use mathlib.Core.Path.{◌≡◌, sym, ap, ◌∙◌}
use Prim.Native.Nat.{ℕ, ◌+◌, ◌≤◌}
use native.Mathlib.Omega.{arith}
use lib.ListN.{length}
use Rattle.number_writer.proofs.WriteLaws.{Front, front_next}
use Rattle.tables.proofs.FormatLaws.{length_entries}
use Rattle.tables.proofs.NumberLaws.{length-u16s, put_at_more, u16s-append}
use Rattle.tables.specs.Format.{encode, receipts_at, receipts_of, sends_at, sends_of, table_length}
use Rattle.tables.specs.Numbers.{bytes_of, bytes_of_all, put_at, u16_bytes, u16s}
use Rattle.tables.specs.Table.{Table, message_count, process_count}

-- two numbers
pub pair_put : (before : List ℕ) (at a b : ℕ) {after later : List ℕ} → at + 4 ≤ length before → after ≡ put_at before at (u16_bytes a)
    → later ≡ put_at after (at + 2) (u16_bytes b) → later ≡ put_at before at (u16s (a ∷ b ∷ []))
unfolding bytes_of_all bytes_of
pair_put before at a b fits first second =
    second ∙ ap (λ (l : List ℕ). put_at l (at + 2) (u16_bytes b)) first ∙ put_at_more before at (u16_bytes a) (u16_bytes b) (omega arith)

-- the head of a table: its sizes, and the counts behind them
pub head_put : (counts : List ℕ) (m : ℕ) (b₀ : List ℕ) {b₁ b₂ : List ℕ} → sends_at (length counts) ≤ length b₀
    → b₁ ≡ put_at b₀ 0 (u16s (length counts ∷ m ∷ [])) → b₂ ≡ put_at b₁ 4 (u16s counts)
    → b₂ ≡ put_at b₀ 0 (u16s (length counts ∷ m ∷ counts))
unfolding bytes_of_all bytes_of
head_put counts m b₀ fits first second =
    second ∙ ap (λ (b : List ℕ). put_at b 4 (u16s counts)) first
    ∙ put_at_more b₀ 0 (u16s (length counts ∷ m ∷ [])) (u16s counts) (omega (arith, length-u16s counts))

-- the sizes and the counts of a table, its sends and its receipts, one after another
module _ (t : Table) (n m : ℕ) (counts sends receipts : List ℕ) (read_n : n ≡ process_count t) (read_m : m ≡ message_count t)
    (is_c : counts ≡ t.counts) (is-s : sends ≡ sends_of t.messages) (is-r : receipts ≡ receipts_of t.messages) where
  in_groups : (u16s (n ∷ m ∷ counts) ++ u16s sends) ++ u16s receipts ≡ encode t
  unfolding encode process_count message_count
  in_groups =
      ap (λ (l : List ℕ). l ++ u16s receipts) (sym (u16s-append (n ∷ m ∷ counts) sends)) ∙ sym (u16s-append ((n ∷ m ∷ counts) ++ sends) receipts)
      ∙ ap u16s (append_assoc (n ∷ m ∷ counts) sends receipts) ∙ rw (read_n, read_m, is_c, is-s, is-r)

  pub table_put : (b₀ b₁ b₂ b₃ : List ℕ) → table_length n m ≤ length b₀ → b₁ ≡ put_at b₀ 0 (u16s (n ∷ m ∷ counts))
      → b₂ ≡ put_at b₁ (sends_at n) (u16s sends) → b₃ ≡ put_at b₂ (receipts_at n m) (u16s receipts) → b₃ ≡ put_at b₀ 0 (encode t)
  unfolding process_count message_count
  table_put b₀ b₁ b₂ b₃ fits w₁ w₂ w₃ =
      let s = ap length is-s ∙ length_entries (λ x. x.sender) (λ x. x.sent) t.messages in
      let r = ap length is-r ∙ length_entries (λ x. x.receiver) (λ x. x.received) t.messages in
      let c : length (u16s (n ∷ m ∷ counts)) ≡ sends_at n = omega (arith, length-u16s (n ∷ m ∷ counts), ap length is_c) in
      let f₁ : Front b₀ b₁ (u16s (n ∷ m ∷ counts)) (sends_at n) = record { put = w₁; size = c } in
      let f₂ = front_next f₁ b₂ (u16s sends) (receipts_at n m) w₂ (omega (arith, length-u16s sends, s)) (omega arith) in
      let f₃ = front_next f₂ b₃ (u16s receipts) (table_length n m) w₃ (omega (arith, length-u16s receipts, r)) (omega arith) in
      f₃.put ∙ ap (put_at b₀ 0) in_groups
