-- The keep sheet as it is read back from the buffer: demand 3, of bytes.
--     read_kept, read_logged                        K and Q
--     read_process, read_checkpoint, read_position       an entry
--     sheet_holds                                   what the bytes list is exactly what some future needs
-- Assumes nothing.
use mathlib.Core.List.{List, ◌∷◌, ◌++◌, map}
use mathlib.Core.Path.{◌≡◌, refl, sym, ap, ◌∙◌, subst, subst⁻¹}
use Prim.Native.Nat.{ℕ, suc, ◌+◌, ◌*◌, ◌<◌}
use native.Mathlib.Omega.{arith}
use lib.ListN.{length, get_or, drop, length-append, length-map, get_or-append, get_or-map}
use lib.Seq.{get_or-append-add}
use Rattle.run_futures.proofs.Demand3.{demand_3}
use Rattle.tables.proofs.FormatLaws.{known_process}
use Rattle.keep_sheet.proofs.FewLaws.{kept_few}
use Rattle.keep_sheet.proofs.KeptLaws.{any_default, checkpoints_listed, keeps_checkpoint_lem, listed_at, messages_listed}
use Rattle.run_futures.specs.Demand3.{Demand3}
use Rattle.tables.specs.Lists.{Listed}
use Rattle.run_futures.specs.Futures.{CheckpointNeeded, MessageNeeded}
use Rattle.keep_sheet.specs.Sheet.{Checkpoint, kept_checkpoints, kept_messages, sheet}
use Rattle.calls.proofs.AnswerLaws.{put_in_front}
use Rattle.calls.specs.Calls.{HoldsSheet, ListsCheckpoint, ListsMessage}
use Rattle.tables.proofs.AcceptLaws.{facts}
use Rattle.tables.proofs.NumberLaws.{u16_at-u16s}
use Rattle.tables.proofs.ReadLaws.{messages_few, processes_few}
use Rattle.tables.specs.Checks.{table_refusal}
use Rattle.tables.specs.Format.{decode}
use Rattle.tables.specs.Numbers.{put_at, u16_at}
use Rattle.tables.specs.Table.{Table, count_of, message_count, most_checkpoints, most_processes, process_count}

module _ (table : List ℕ) (accepted : table_refusal table ≡ 0) (before after : List ℕ) (put : after ≡ put_at before 0 (sheet (decode table))) where
  abbrev t : Table
  t = decode table

  abbrev ks : List Checkpoint
  ks = kept_checkpoints t

  abbrev qs : List ℕ
  qs = kept_messages t

  abbrev ps : List ℕ
  ps = map (λ (k : Checkpoint). k.process) ks

  abbrev ss : List ℕ
  ss = map (λ (k : Checkpoint). k.number) ks

  abbrev ns : List ℕ
  ns = length ks ∷ length qs ∷ (ps ++ (ss ++ qs))

  sizes : (length ps ≡ length ks) × (length ss ≡ length ks)
  sizes = (simp length-map, simp length-map)

  size : length ns ≡ 2 + length ks + length ks + length qs
  size = simp (length-append, length-map) (omega arith)

  -- a number of the sheet, where it fits
  read : (p v : ℕ) → p < length ns → get_or ns p 0 ≡ v → v < 65536 → u16_at after (2 * p) ≡ v
  unfolding sheet
  read p v l e fits =
      ap (λ (b : List ℕ). u16_at b (2 * p)) (put ∙ put_in_front before (sheet t))
      ∙ u16_at-u16s ns (drop (length (sheet t)) before) p l (omega (arith, e)) ∙ e

  pub read_kept : u16_at after 0 ≡ length ks
  read_kept = read 0 (length ks) (omega (arith, size)) refl (omega (arith, (kept_few table accepted).0))

  pub read_logged : u16_at after 2 ≡ length qs
  read_logged = read 1 (length qs) (omega (arith, size)) refl (omega (arith, (kept_few table accepted).1))

  -- a checkpoint of the list has small numbers
  small : (x : Checkpoint) → Listed x ks → (x.process < most_processes) × (x.number < most_checkpoints)
  small x h =
      let below : x.number < count_of t x.process = ((keeps_checkpoint_lem t x.process x.number).0 ((checkpoints_listed t x.process x.number).0 h)).0 in
      let known : x.process < process_count t = known_process t x.process x.number below in
      (omega (arith, processes_few table accepted), omega (arith, (facts table accepted).limits.counts_limit x.process known))

  module _ (n : ℕ) (d : Checkpoint) (l : n < length ks) where
    pub read_process : u16_at after (4 + 2 * n) ≡ (get_or ks n d).process
    read_process =
        ap (u16_at after) (omega arith)
        ∙ read (suc (suc n)) (get_or ks n d).process (omega (arith, size))
        (get_or-append ps (ss ++ qs) 0 n (omega (arith, sizes.0)) ∙ any_default ps n 0 d.process (omega (arith, sizes.0))
        ∙ get_or-map (λ (k : Checkpoint). k.process) ks n d)
        (omega (arith, (small (get_or ks n d) (listed_at ks n d l)).0))

    pub read_checkpoint : u16_at after (4 + 2 * u16_at after 0 + 2 * n) ≡ (get_or ks n d).number
    read_checkpoint =
        ap (u16_at after) (omega (arith, read_kept, sizes.0))
        ∙ read (suc (suc (length ps + n))) (get_or ks n d).number (omega (arith, size, sizes.0))
        (get_or-append-add ps (ss ++ qs) n 0 ∙ get_or-append ss qs 0 n (omega (arith, sizes.1))
        ∙ any_default ss n 0 d.number (omega (arith, sizes.1)) ∙ get_or-map (λ (k : Checkpoint). k.number) ks n d)
        (omega (arith, (small (get_or ks n d) (listed_at ks n d l)).1))

  module _ (n : ℕ) (d : ℕ) (l : n < length qs) where
    pub read_position : u16_at after (4 + 4 * u16_at after 0 + 2 * n) ≡ get_or qs n d
    read_position =
        let inside : get_or qs n d < message_count t = ((messages_listed t (get_or qs n d)).0 (listed_at qs n d l)).0 in
        ap (u16_at after) (omega (arith, read_kept, sizes.0, sizes.1))
        ∙ read (suc (suc (length ps + (length ss + n)))) (get_or qs n d) (omega (arith, size, sizes.0, sizes.1))
        (get_or-append-add ps (ss ++ qs) (length ss + n) 0 ∙ get_or-append-add ss qs n 0 ∙ any_default qs n 0 d l)
        (omega (arith, messages_few table accepted))

  abbrev demand : Demand3 t
  demand = demand_3 t (facts table accepted).well_formed

  abbrev entry : ℕ → ℕ → Checkpoint
  entry i c = record { process = i; number = c }

  checkpoint-there : (i c : ℕ) → ListsCheckpoint after i c → CheckpointNeeded t i c
  unfolding ListsCheckpoint
  checkpoint-there i c h =
      let n = h.0 in
      let l : n < length ks = subst (λ (k : ℕ). n < k) read_kept h.1 in
      let x : Checkpoint = get_or ks n (entry i c) in
      let needed : CheckpointNeeded t x.process x.number = (demand.checkpoints x.process x.number).0 (listed_at ks n (entry i c) l) in
      subst (λ (k : ℕ). CheckpointNeeded t i k) (sym (read_checkpoint n (entry i c) l) ∙ h.3)
      (subst (λ (p : ℕ). CheckpointNeeded t p x.number) (sym (read_process n (entry i c) l) ∙ h.2) needed)

  checkpoint_back : (i c : ℕ) → CheckpointNeeded t i c → ListsCheckpoint after i c
  unfolding ListsCheckpoint Listed
  checkpoint_back i c needed =
      let h : Listed (entry i c) ks = (demand.checkpoints i c).1 needed in (
        h.0,
        subst⁻¹ (λ (k : ℕ). h.0 < k) read_kept h.1,
        read_process h.0 (entry i c) h.1 ∙ ap (λ (k : Checkpoint). k.process) h.2,
        read_checkpoint h.0 (entry i c) h.1 ∙ ap (λ (k : Checkpoint). k.number) h.2,
      )

  message_there : (k : ℕ) → ListsMessage after k → MessageNeeded t k
  unfolding ListsMessage
  message_there k h =
      let n = h.0 in
      let l : n < length qs = subst (λ (q : ℕ). n < q) read_logged h.1 in
      subst (MessageNeeded t) (sym (read_position n k l) ∙ h.2) ((demand.messages (get_or qs n k)).0 (listed_at qs n k l))

  message_back : (k : ℕ) → MessageNeeded t k → ListsMessage after k
  unfolding ListsMessage Listed
  message_back k needed =
      let h : Listed k qs = (demand.messages k).1 needed in
      (h.0, subst⁻¹ (λ (q : ℕ). h.0 < q) read_logged h.1, read_position h.0 k h.1 ∙ h.2)

  pub sheet_holds : HoldsSheet t after
  sheet_holds = record {
    checkpoints = λ i c. (checkpoint-there i c, checkpoint_back i c);
    messages = λ k. (message_there k, message_back k);
  }
