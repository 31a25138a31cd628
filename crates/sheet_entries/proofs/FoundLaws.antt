-- What lines in a scratch say is kept is the keep sheet, where they are the lines of single holders.
--     numbers_are, kept_is                  what the lines say, from their entries
--     checkpoints_found, positions_found    what the code finds, from what it read
-- Assumes nothing.
use mathlib.Core.Bool.{Bool, ◌&&◌, ◌||◌}
use mathlib.Core.List.{List, map}
use mathlib.Core.Path.{◌≡◌, ap, ap₂, ◌∙◌}
use Prim.Native.Nat.{ℕ, ◌<◌}
use borrow.Author.Tests.{lt-ltb}
use lib.Dec.{eqb, ltb}
use Rattle.consistency.specs.Ceilings.{holder_line}
use Rattle.consistency.specs.Lines.{Line, as_line}
use Rattle.holder_lines.proofs.ScratchLaws.{entry_is}
use Rattle.holder_lines.specs.Scratch.{LinesOf, lines_in}
use Rattle.keep_sheet.specs.Sheet.{crosses, keeps_checkpoint, keeps_message, kept_checkpoints, kept_messages}
use Rattle.tables.proofs.ListLaws.{any_below_ext, rows_ext, select_ext}
use Rattle.tables.proofs.ReadLaws.{ReadMessages, count_is, message_good, message_is}
use Rattle.tables.specs.Checks.{GoodMessage}
use Rattle.tables.specs.Format.{counts_part, decode}
use Rattle.tables.specs.Lists.{select}
use Rattle.tables.specs.Table.{Message, Table, count_of, message_count, message_of, process_count}
use Rattle.sheet_entries.specs.Kept.{checkpoints_at, checkpoints_of, crosses_line, is_kept, kept_of, positions_of, shows}

module _ (t : Table) (line : ℕ → Line) where
  abbrev N : ℕ
  N = process_count t

  module _ (are : (k i : ℕ) → k < N → i < N → line k i ≡ as_line (holder_line t k) i) where
    numbers_are : (i : ℕ) → i < N → kept_of N line i (count_of t i) ≡ select (keeps_checkpoint t i) (count_of t i)
    unfolding kept_of shows keeps_checkpoint
    numbers_are i l =
        select_ext _ _ (count_of t i) (λ c b. rw (lt-ltb c (count_of t i) b) (any_below_ext _ _ N (λ k d. ap (λ (x : ℕ). eqb x c) (are k i d l))))

    kept_is : (m : Message) → GoodMessage t m → is_kept N line m ≡ keeps_message t m
    unfolding is_kept keeps_message crosses_line crosses
    kept_is m good =
        ap (λ (r : Bool). eqb m.received 0 || r)
        (any_below_ext _ _ N (λ k l.
        ap₂ (λ (x y : ℕ). ltb m.sent x && ltb y m.received)
        (are k m.sender l good.sender_known) (are k m.receiver l good.receiver_known)))

-- ---- in a scratch that has the lines of an accepted table, from what the code read
module _ {bytes s : List ℕ} (given : LinesOf bytes s) where
  abbrev t : Table
  t = decode bytes

  abbrev line : ℕ → Line
  line = lines_in s (process_count t)

  module _ {n : ℕ} (n_is : n ≡ process_count t) where
    pub checkpoints_found : {counts : List ℕ} → counts ≡ counts_part bytes → checkpoints_of n (lines_in s n) counts ≡ kept_checkpoints t
    unfolding checkpoints_of checkpoints_at kept_checkpoints
    checkpoints_found counts_are =
        rw (n_is, counts_are)
        (rows_ext _ _ (process_count t) (λ i l. ap (map (λ c. record { process = i; number = c }))
        (ap (kept_of (process_count t) line i) (count_is bytes given.accepted i l) ∙ numbers_are t line (entry_is given) i l)))

    pub positions_found : {m : ℕ} {sends receipts : List ℕ} → ReadMessages bytes m sends receipts
        → positions_of n (lines_in s n) sends receipts m ≡ kept_messages t
    unfolding positions_of kept_messages
    positions_found read =
        rw (n_is, read.m_is, read.sends_are, read.receipts_are)
        (select_ext _ _ (message_count t) (λ k l. ap (is_kept (process_count t) line) (message_is bytes given.accepted k l)
        ∙ kept_is t line (entry_is given) (message_of t k) (message_good bytes given.accepted k l)))
