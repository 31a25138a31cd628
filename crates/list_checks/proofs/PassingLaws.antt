-- The loops of `skips_older`, which go over the entries up to the last one listed.
--     SendersMarked, marked_none                the marks of senders; how they begin
--     marks_listed, marks_left, marks_more      what an entry that is listed, does not wait, or is skipped does to them
--     GoneOver, gone_none, gone_all             the walk from one position to the next; how it begins and ends
--     sender_within, unlisted, marks_there      the entries up to the next position
--     skips_here, gone_more                     what the mark of that position's sender says
--     listed_entries, passes_is                 the entries of a table, and its messages
-- Assumes nothing.
use mathlib.Core.Bool.{Bool, true, false, ◌&&◌, and_assoc, and-false, and-true}
use mathlib.Core.List.{List}
use mathlib.Core.Path.{◌≡◌, refl, sym, ap, ◌∙◌, subst}
use Prim.Native.Nat.{ℕ, ◌+◌, ◌*◌, ◌≤◌, ◌<◌}
use native.Mathlib.Decide.{dec_lt}
use native.Mathlib.Nat.{le_antisymm, le_refl}
use native.Mathlib.Numerals.{add-one}
use native.Mathlib.Omega.{arith}
use borrow.Author.Count.{below_more, below_none}
use borrow.Author.Tests.{eq-eqb, ne_eqb}
use lib.Dec.{eqb}
use lib.ListN.{length, get_or, set, replicate}
use Rattle.list_checks.proofs.PositionLaws.{any-places}
use Rattle.list_checks.specs.Entries.{ListedEntries, entry_skipped, entry_waits, skips_older}
use Rattle.steps.proofs.StepLaws.{Waiting, good_position, rising}
use Rattle.steps.specs.Steps.{bad_position, not_rising, passes_over}
use Rattle.tables.proofs.ListLaws.{any_none, any_some, any_below_ext, any_below_found, get_or_tabulate, none_of, set-tabulate, tabulate_ext}
use Rattle.tables.proofs.ReadLaws.{ReadMessages, received_is, receiver_is, sender_is, sender_small}
use Rattle.tables.proofs.TurnLaws.{waits_read}
use Rattle.tables.specs.Checks.{same_channel, waits}
use Rattle.tables.specs.Format.{checkpoint_at, decode, process_at}
use Rattle.tables.specs.Lists.{any, any_below, tabulate}
use Rattle.tables.specs.Numbers.{u16_at}
use Rattle.tables.specs.Table.{Table, message_of, most_processes}

-- ---- the marks
-- Just the senders of skipped entries below k are marked.
pub record SendersMarked (sends receipts : List ℕ) (i : ℕ) (list : List ℕ) (skipped : List Bool) (k : ℕ) : Type 0 where
  pub marks : skipped ≡ tabulate 32 (λ p. any_below k (entry_skipped sends receipts i list p))

pub marked_none : {sends receipts : List ℕ} {i : ℕ} {list : List ℕ} → SendersMarked sends receipts i list (replicate 32 false) 0
unfolding any_below tabulate
marked_none = record { marks = refl }

module _ {sends receipts : List ℕ} {i : ℕ} {list : List ℕ} {skipped : List Bool} {k : ℕ} (w : SendersMarked sends receipts i list skipped k) where
  -- an entry that is not skipped changes no mark
  same : (p : ℕ) → entry_skipped sends receipts i list p k ≡ false
      → any_below k (entry_skipped sends receipts i list p) ≡ any_below (k + 1) (entry_skipped sends receipts i list p)
  unfolding any_below
  same p e = rw (add-one k, e)

  goes_on : ((p : ℕ) → entry_skipped sends receipts i list p k ≡ false) → SendersMarked sends receipts i list skipped (k + 1)
  goes_on none = record { marks = w.marks ∙ tabulate_ext 32 _ _ (λ p _. same p (none p)) }

  -- entry k is listed
  pub marks_listed : any (eqb k) list ≡ true → SendersMarked sends receipts i list skipped (k + 1)
  unfolding entry_skipped
  marks_listed e = goes_on (λ p. rw e (and-false (eqb (process_at sends k) p && entry_waits receipts i k)))

  -- it does not wait
  pub marks_left : entry_waits receipts i k ≡ false → SendersMarked sends receipts i list skipped (k + 1)
  unfolding entry_skipped
  marks_left e = goes_on (λ p. rw (e, and-false (eqb (process_at sends k) p)))

  -- it waits, and is not listed
  module _ (waits : entry_waits receipts i k ≡ true) (other : any (eqb k) list ≡ false) where
    just : (p : ℕ) → entry_skipped sends receipts i list p k ≡ eqb (process_at sends k) p
    unfolding entry_skipped
    just p = rw (waits, other, and-true (eqb (process_at sends k) p), and-true (eqb (process_at sends k) p))

    pub marks_more : {j : ℕ} → j ≡ u16_at sends (4 * k) → j < most_processes
        → SendersMarked sends receipts i list (set skipped j true) (k + 1)
    unfolding process_at
    marks_more {j} read within =
        let is : (p : ℕ) → entry_skipped sends receipts i list p k ≡ eqb j p =
        λ p. just p ∙ ap (λ (x : ℕ). eqb x p) (sym read) in
        let found : entry_skipped sends receipts i list j k ≡ true = is j ∙ eq-eqb j j refl in
        record {
          marks =
              ap (λ (marks : List Bool). set marks j true) w.marks
              ∙ set-tabulate 32 _ _ j true within (sym (any_below_found (entry_skipped sends receipts i list j) (k + 1) k (omega arith) found))
              (λ p apart. same p (is p ∙ ne_eqb j p (λ q. apart (sym q))));
        }

-- ---- the walk
-- It has gone over the first a positions of the list, and over the first k entries.
pub record GoneOver (sends receipts : List ℕ) (i : ℕ) (list : List ℕ) (skipped : List Bool) (a k : ℕ) : Type 0 where
  pub given : ListedEntries sends receipts list
  -- those positions, and no others, are below k
  pub behind : (b : ℕ) → b < a → get_or list b 0 < k
  pub ahead : (b : ℕ) → a ≤ b → b < length list → k ≤ get_or list b 0
  pub marked : SendersMarked sends receipts i list skipped k
  -- none of those positions has an older one that is skipped
  pub none : (b : ℕ) → b < a → skips_older sends receipts i list (get_or list b 0) ≡ false

pub gone_none : {sends receipts : List ℕ} {i : ℕ} {list : List ℕ} → ListedEntries sends receipts list
    → GoneOver sends receipts i list (replicate 32 false) 0 0
gone_none given =
    record { given = given; behind = below_none _; ahead = λ b l inside. omega arith; marked = marked_none; none = below_none _ }

module _ {sends receipts : List ℕ} {i : ℕ} {list : List ℕ} {skipped : List Bool} {a next : ℕ}
    (w : GoneOver sends receipts i list skipped a next) where
  pub gone_all : length list ≤ a → false ≡ any (skips_older sends receipts i list) list
  gone_all l = sym (any_none (skips_older sends receipts i list) list 0 (λ b inside. w.none b (omega arith)))

  -- the position that it comes to
  module _ (more : a < length list) where
    abbrev listed : ℕ
    listed = get_or list a 0

    pub sender_within : {k : ℕ} → k ≤ listed → {j : ℕ} → j ≡ u16_at sends (4 * k) → j < most_processes
    unfolding process_at
    sender_within {k} l read = omega (arith, read, w.given.senders_known k (omega (arith, w.given.there a more)))

    -- where the loop over the entries before it ends
    pub marks_there : {marks : List Bool} {k : ℕ} → listed ≤ k → (next ≤ listed → k ≤ listed) → SendersMarked sends receipts i list marks k
        → SendersMarked sends receipts i list marks listed
    marks_there {marks} l l' m =
        subst (λ (x : ℕ). SendersMarked sends receipts i list marks x) (le_antisymm (l' (w.ahead a (le_refl a) more)) l) m

    -- an entry before it
    pub unlisted : (k : ℕ) → next ≤ k → k < listed → any (eqb k) list ≡ false
    unlisted k from l = any_none (eqb k) list 0 (λ b inside. ne_eqb k (get_or list b 0) (λ e. by_place b inside e (dec_lt b a) (dec_lt a b)))
      where
        by_place : (b : ℕ) → b < length list → k ≡ get_or list b 0 → Dec (b < a) → Dec (a < b) → ⊥
        by_place b inside e (yes c) d = omega (arith, w.behind b c)
        by_place b inside e (no c) (yes d) = omega (arith, rising list w.given.rises a b d inside)
        by_place b inside e (no c) (no d) =
            let at : a ≡ b = omega arith in
            absurd (omega (arith, e, ap (λ (x : ℕ). get_or list x 0) at))

    -- the mark of its sender says whether it has an older one that is skipped
    module _ {marks : List Bool} (m : SendersMarked sends receipts i list marks listed) {j : ℕ} (read : j ≡ u16_at sends (4 * listed)) where
      mark_is : skips_older sends receipts i list listed ≡ get_or marks j false
      unfolding skips_older process_at
      mark_is =
          ap (λ (p : ℕ). any_below listed (entry_skipped sends receipts i list p)) (sym read)
          ∙ sym (ap (λ (s : List Bool). get_or s j false) m.marks ∙ get_or_tabulate 32 _ j false (sender_within (le_refl listed) read))

      pub skips_here : get_or marks j false ≡ true → true ≡ any (skips_older sends receipts i list) list
      skips_here e = sym (any_some (skips_older sends receipts i list) list 0 a more (mark_is ∙ e))

      pub gone_more : get_or marks j false ≡ false → GoneOver sends receipts i list marks (a + 1) (listed + 1)
      gone_more e = record {
        given = w.given;
        behind = below_more _ a (λ b l. omega (arith, w.behind b l, w.ahead a (le_refl a) more)) (omega arith);
        ahead = λ b l inside. omega (arith, rising list w.given.rises a b (omega arith) inside);
        marked = marks_listed m (any_some (eqb listed) list 0 a more (eq-eqb listed listed refl));
        none = below_more _ a w.none (mark_is ∙ e);
      }

-- ---- the entries of a table
module _ {table : List ℕ} {m : ℕ} {sends receipts : List ℕ} (read : ReadMessages table m sends receipts) (i : ℕ) (list : List ℕ)
    (good : any (bad_position (decode table) i) list ≡ false) where
  abbrev t : Table
  t = decode table

  waiting : (a : ℕ) → a < length list → Waiting t i (get_or list a 0)
  waiting a l = good_position t i (get_or list a 0) (none_of (bad_position t i) list 0 good a l)

  pub listed_entries : not_rising list ≡ false → ListedEntries sends receipts list
  unfolding process_at
  listed_entries rises = record {
    same_size = read.receipts_size ∙ sym read.sends_size;
    there = λ a l. omega (arith, (waiting a l).a_message, read.m_is, read.sends_size);
    senders_known = λ k l. sender_small read (omega (arith, read.sends_size)) refl;
    rises = rises;
  }

  pub passes_is : any (skips_older sends receipts i list) list ≡ any (passes_over t list) list
  unfolding skips_older passes_over entry_skipped entry_waits same_channel process_at checkpoint_at
  passes_is =
      any-places _ list
      ∙ any_below_ext _ _ (length list) (λ a l.
      let here = waiting a l in
      let k : ℕ = get_or list a 0 in
      let inside : k < m = omega (arith, here.a_message, read.m_is) in
      any_below_ext _ _ k (λ q before.
      let b : q < m = omega arith in
      let older = message_of t q in
      rw (
        sender_is read b refl,
        sender_is read inside refl,
        receiver_is read b refl,
        ← waits_read older (received_is read b refl),
        here.to_process,
        ← and_assoc (eqb older.sender (message_of t k).sender) (eqb older.receiver i) (waits older),
      )))
      ∙ sym (any-places _ list)
