-- Named checkpoints stand together just where no zigzag path leads from one of them to another or to itself. The argument: rollback
-- propagation starts at the ceiling of the names, and brings a process down only to just before the receipt of a message that ends a chain
-- from a named checkpoint (`Reached`), since the sender of an orphan stands at its name, or just before such a receipt, and at its count
-- nothing was sent. So a named process that is brought down has a path to its checkpoint. Conversely a line that has the first checkpoint
-- of a path stands before the receipt of each of its messages, and so before the last checkpoint.
--     stand_apart          a line that has the named checkpoints leaves no path between them
--     reached_line         each number of the latest line under the ceiling: the ceiling's, or where a chain ends
--     stands_or_path       at a named process it is the named number, or a path leads there
--     together             the whole claim
-- Assumes nothing.
use mathlib.Core.Bool.{Bool, true, false, not, false≢true}
use mathlib.Core.List.{List}
use mathlib.Core.Logic.{◌⊎◌, inl, inr, ⊎_elim}
use mathlib.Core.Path.{◌≡◌, refl, sym, ap, ◌∙◌, subst⁻¹}
use Prim.Native.Nat.{ℕ, ◌-◌, ◌≤◌, ◌<◌}
use native.Mathlib.Decide.{dec_le, ℕ_discrete}
use native.Mathlib.Omega.{arith}
use borrow.Author.Tests.{eq-eqb, eqb-true, not-false}
use lib.Dec.{eqb}
use lib.ListN.{length, get_or, set}
use lib.Seq.{get_or-set_other}
use Rattle.consistency.proofs.CeilingLaws.{under_below}
use Rattle.consistency.proofs.LoweringLaws.{line_carries, line_latest, put_back_here}
use Rattle.consistency.specs.Lines.{AtOrBelow, Line, Orphan, as_line}
use Rattle.tables.proofs.FormatLaws.{message_in}
use Rattle.tables.proofs.ListLaws.{found_below, none_below}
use Rattle.tables.specs.Checks.{WellFormed}
use Rattle.tables.specs.Table.{Table, count_of, message_of}
use Rattle.zigzag.proofs.NameLaws.{ceiling_else, ceiling_named, named_ceiling_lem}
use Rattle.zigzag.proofs.ZigzagLaws.{zigzag_behind}
use Rattle.zigzag.specs.Names.{Named, NamedZigzag, Names}
use Rattle.zigzag.specs.Paths.{Chain, first, received_in, then}
use Rattle.zigzag.specs.Together.{StandOn, Together, misses, named_ceiling, named_line}

-- a line that has the named checkpoints leaves no path between them
stand_apart : {t : Table} {processes states : List ℕ} (l : Line) → StandOn t processes states l → NamedZigzag t processes states → ⊥
stand_apart {t} l on z =
    omega (arith, zigzag_behind t l on.consistent (omega (arith, on.has z.p z.i z.from_named)) z.path, on.has z.q z.j z.to_named)

-- A number at which a chain from a named checkpoint ends at process p: the one just before the receipt of its last message.
record ChainEnd (t : Table) (processes states : List ℕ) (p number : ℕ) : Type 0 where
  from : ℕ
  start : ℕ
  named : Named processes states from start
  last : ℕ
  chain : Chain t from start last
  to_process : (message_of t last).receiver ≡ p
  just_before : received_in (message_of t last) ≡ number

module _ {t : Table} (w : WellFormed t) {processes states : List ℕ} (names : Names t processes states) where
  abbrev ceiling : List ℕ
  ceiling = named_ceiling t processes states

  abbrev line : List ℕ
  line = named_line t processes states

  -- Each number of a line is the ceiling's, or one at which a chain ends.
  Reached : List ℕ → Type 0
  Reached l = (p : ℕ) → (as_line l p ≡ as_line ceiling p) ⊎ ChainEnd t processes states p (as_line l p)

  -- an orphan of such a line ends a chain itself
  orphan_ends : (k : ℕ) (l : List ℕ) → Orphan (message_of t k) (as_line l) → Reached l
      → ChainEnd t processes states (message_of t k).receiver (received_in (message_of t k))
  unfolding Reached
  orphan_ends k l o reached = ⊎_elim at_ceiling at_end (reached (message_of t k).sender)
    where
      ended : {from start : ℕ} → Named processes states from start → Chain t from start k
          → ChainEnd t processes states (message_of t k).receiver (received_in (message_of t k))
      ended named chain = record { from = _; start = _; named = named; last = k; chain = chain; to_process = refl; just_before = refl }

      at_ceiling : as_line l (message_of t k).sender ≡ as_line ceiling (message_of t k).sender
          → ChainEnd t processes states (message_of t k).receiver (received_in (message_of t k))
      at_ceiling e =
          ⊎_elim
          (λ (named : Named processes states (message_of t k).sender (as_line ceiling (message_of t k).sender)).
          ended named (first k (record { delivered = o.delivered; by_process = refl; after = omega (arith, e, o.sent_after) })))
          (λ (count : as_line ceiling (message_of t k).sender ≡ count_of t (message_of t k).sender).
          absurd (omega (arith, e, count, o.sent_after, (w.good_messages k (message_in t k o.delivered)).sent_below)))
          (ceiling_else names (message_of t k).sender)

      at_end : ChainEnd t processes states (message_of t k).sender (as_line l (message_of t k).sender)
          → ChainEnd t processes states (message_of t k).receiver (received_in (message_of t k))
      at_end c =
          ended c.named
          (then c.chain k
          (record { delivered = o.delivered; by_receiver = sym c.to_process; same_or_later = omega (arith, c.just_before, o.sent_after) }))

  reached_goes_on : (k : ℕ) (l : List ℕ) → Orphan (message_of t k) (as_line l) → Reached l
      → Reached (set l (message_of t k).receiver ((message_of t k).received - 1))
  unfolding Reached received_in
  reached_goes_on k l o reached p = by_place (ℕ_discrete p (message_of t k).receiver)
    where
      after : List ℕ
      after = set l (message_of t k).receiver ((message_of t k).received - 1)

      by_place : Dec (p ≡ (message_of t k).receiver) → (as_line after p ≡ as_line ceiling p) ⊎ ChainEnd t processes states p (as_line after p)
      by_place (yes e) =
          inr (subst⁻¹ (λ (q : ℕ). ChainEnd t processes states q (as_line after q)) e
          (subst⁻¹ (ChainEnd t processes states (message_of t k).receiver) (put_back_here (message_of t k) l o) (orphan_ends k l o reached)))
      by_place (no other) =
          subst⁻¹ (λ (x : ℕ). (x ≡ as_line ceiling p) ⊎ ChainEnd t processes states p x)
          (get_or-set_other l (message_of t k).receiver p ((message_of t k).received - 1) 0 other) (reached p)

  reached_line : Reached line
  unfolding Reached message_of named_line
  reached_line = line_carries Reached t.messages reached_goes_on ceiling (λ p. inl refl)

  -- where a chain ends at or before the named checkpoint, it is a path to it
  stands_or_path : (p c : ℕ) → Named processes states p c → (as_line line p ≡ c) ⊎ NamedZigzag t processes states
  unfolding Reached received_in named_line
  stands_or_path p c named =
      ⊎_elim (λ e. inl (e ∙ ceiling_named names named)) (λ end. by_order end (dec_le (message_of t end.last).received c)) (reached_line p)
    where
      not_above : as_line line p ≤ c
      not_above = omega (arith, (line_latest t.messages ceiling).under p, ceiling_named names named)

      by_order : (end : ChainEnd t processes states p (as_line line p)) → Dec ((message_of t end.last).received ≤ c)
          → (as_line line p ≡ c) ⊎ NamedZigzag t processes states
      by_order end (yes before) = inr (record {
        p = end.from;
        i = end.start;
        q = p;
        j = c;
        from_named = end.named;
        to_named = named;
        path = record { last = end.last; chain = end.chain; ends = record { by_process = end.to_process; before = before } };
      })
      by_order end (no later) = inl (omega (arith, end.just_before, not_above))

  -- the latest line under the ceiling stands where it has the named checkpoints
  on_line : ((p c : ℕ) → Named processes states p c → as_line line p ≡ c) → StandOn t processes states (as_line line)
  unfolding named_line
  on_line has = record {
    within = under_below t ceiling (named_ceiling_lem names);
    consistent = (line_latest t.messages ceiling).consistent;
    has = has;
  }

  line_stands : (NamedZigzag t processes states → ⊥) → StandOn t processes states (as_line line)
  line_stands none = on_line (λ p c named. ⊎_elim (λ (e : as_line line p ≡ c). e) (λ z. absurd (none z)) (stands_or_path p c named))

  -- a line that has them is at or below their ceiling
  line_last : (l : Line) → StandOn t processes states l → AtOrBelow l (as_line line)
  unfolding named_line
  line_last l on =
      (line_latest t.messages ceiling).latest l
      (λ p.
      ⊎_elim (λ (named : Named processes states p (as_line ceiling p)). omega (arith, on.has p (as_line ceiling p) named))
      (λ (e : as_line ceiling p ≡ count_of t p). omega (arith, e, on.within p)) (ceiling_else names p))
      on.consistent

  -- the test of the line
  abbrev other : ℕ → Bool
  other k = not (eqb (as_line line (get_or processes k 0)) (get_or states k 0))

  here : (k : ℕ) → k < length processes → Named processes states (get_or processes k 0) (get_or states k 0)
  here k b = record { place = k; there = b; process_is = refl; state_is = refl }

  missing_path : misses processes states line ≡ true → NamedZigzag t processes states
  unfolding misses
  missing_path e =
      let found = found_below other (length processes) e in
      let k = found.0 in
      ⊎_elim (λ (same : as_line line (get_or processes k 0) ≡ get_or states k 0). absurd (false≢true (sym (ap not (eq-eqb _ _ same)) ∙ found.2)))
      (λ z. z)
      (stands_or_path (get_or processes k 0) (get_or states k 0) (here k found.1))

  not_missing : misses processes states line ≡ false → NamedZigzag t processes states → ⊥
  unfolding misses
  not_missing e =
      stand_apart (as_line line)
      (on_line
      (λ p c named.
      ap (as_line line) (sym named.process_is) ∙ eqb-true _ _ (not-false _ (none_below other (length processes) e named.place named.there))
      ∙ named.state_is))

  pub together : Together t processes states
  together = record {
    theorem = (λ on. stand_apart on.0 on.1, λ none. (as_line line, line_stands none));
    stands = line_stands;
    latest = line_last;
    told = (missing_path, λ z. go z (misses processes states line) refl);
  }
    where
      go : NamedZigzag t processes states → (b : Bool) → misses processes states line ≡ b → b ≡ true
      go z true e = refl
      go z false e = absurd (not_missing e z)
