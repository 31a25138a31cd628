-- The answers of the steps.
--     send_judged .. rollback_judged    where no check of the call catches, what it promises: the table after the step, accepted
--     sender_known, can_receive         and what is written stands on known processes and messages
--     nothing_copied                    a receipt of nothing answers the table's own bytes
-- Assumes nothing.
use mathlib.Core.List.{List, []}
use mathlib.Core.Path.{◌≡◌, sym, ap, ◌∙◌, subst, subst⁻¹}
use Prim.Native.Nat.{ℕ, ◌+◌, ◌<◌}
use native.Mathlib.Omega.{arith}
use borrow.Author.Tests.{leb-false}
use lib.ListN.{length, take, drop}
use lib.Seq.{take_at}
use Rattle.steps.proofs.StepLaws.{Receives, checkpoint_limits, checkpoint_receives, checkpoint_step, quiet_send, receipt_known, receipt_limits}
use Rattle.steps.proofs.StepLaws.{receipt_of_nothing, receipt_positions, receipt_receives, receive_step, receives_messages, rollback_limits}
use Rattle.steps.proofs.StepLaws.{rollback-processes, rollback_step, send_limits, send-messages, send-processes, send_step, step_orderly}
use Rattle.steps.specs.Steps.{Step, after_checkpoint, after_receipt, after_rollback, after_send, checkpoint, receipt_checks, receive, rollback, send}
use Rattle.steps.specs.Steps.{send_checks, step}
use Rattle.calls.proofs.AnswerLaws.{Judged, Promise, put_in_front}
use Rattle.call_checks.proofs.RefusalLaws.{Quiet, QuietCall, quiet_by, quiet_receipt}
use Rattle.calls.specs.Calls.{HoldsTable}
use Rattle.call_checks.specs.CallChecks.{checkpoint_call_checks, receipt_call_checks, send_call_checks}
use Rattle.tables.proofs.AcceptLaws.{accepted_encode, facts, orderly, reread, rewritten}
use Rattle.tables.proofs.CheckLaws.{caught_by, passed, quiet_none}
use Rattle.tables.proofs.CodingLaws.{AreBytes}
use Rattle.tables.proofs.FormatLaws.{encode-length}
use Rattle.tables.specs.Checks.{Accepted, Check, Limits, Orderly, first_caught, table_checks, table_refusal}
use Rattle.tables.specs.Format.{decode, encode, table_length}
use Rattle.tables.specs.Numbers.{put_at}
use Rattle.tables.specs.Table.{Table, message_count, most_checkpoints, most_messages, process_count}
use Rattle.step_writer.specs.Receipts.{CanReceive}

-- ---- what a step promises: the table after it, of as many processes and of m messages
abbrev pub step_promise : List ℕ → List Check → Step → Table → ℕ → Promise
step_promise table checks s after m = record {
  checks = checks;
  bytes = encode after;
  size = table_length (process_count (decode table)) m;
  Leaves = HoldsTable (step (decode table) s);
}

-- The table is accepted, and the step leaves such a table, within the limits.
record Taken (table : List ℕ) (s : Step) (after : Table) (m : ℕ) : Type 0 where
  pub accepted : table_refusal table ≡ 0
  pub gives : step (decode table) s ≡ after
  pub processes : process_count after ≡ process_count (decode table)
  pub messages : message_count after ≡ m
  pub limits : Limits after

step_judged : {table : List ℕ} {checks : List Check} {s : Step} {after : Table} {m : ℕ} → Quiet checks → Taken table s after m
    → Judged (step_promise table checks s after m)
step_judged {table} {s = s} {after} {m} quiet taken = record { quiet = quiet; sized = sized; leaves = left }
  where
    size : ℕ
    size = table_length (process_count (decode table)) m

    sized : size ≡ length (encode after)
    sized = omega (arith, encode-length after, taken.processes, taken.messages)

    orderly_after : Orderly after
    orderly_after = subst Orderly taken.gives (step_orderly (decode table) (orderly table (facts table taken.accepted)) s)

    left : (buffer : List ℕ) {buffer' : List ℕ} → buffer' ≡ put_at buffer 0 (encode after)
        → HoldsTable (step (decode table) s) buffer' size
    left buffer put =
        let first =
        ap (take size) (put ∙ put_in_front buffer (encode after))
        ∙ take_at (encode after) (drop (length (encode after)) buffer) size (sym sized) in
        record {
          accepted = subst⁻¹ Accepted first (accepted_encode after orderly_after taken.limits);
          reads = ap decode first ∙ reread after orderly_after.well_formed taken.limits ∙ sym taken.gives;
        }

-- ---- a send, a receipt and a checkpoint of which no check catches
module _ {table : List ℕ} where
  module _ (j i : ℕ) (q : QuietCall table (send_call_checks table j i)) where
    quiet_sends : first_caught (send_checks (decode table) j i) ≡ 0
    unfolding send_call_checks send_checks table_checks caught_by
    quiet_sends = passed _ _ 0 (quiet_by q 10) (passed _ _ 0 (quiet_by q 11) quiet_none)

    pub sender_known : j < process_count (decode table)
    sender_known = (quiet_send (decode table) j i quiet_sends).0

    pub send_judged : Judged (step_promise table (send_call_checks table j i) (send j i) (after_send (decode table) j i) (message_count (decode table) + 1))
    unfolding send_call_checks send_checks table_checks caught_by
    send_judged =
        step_judged q.quiet record {
          accepted = q.accepted;
          gives = send_step (decode table) j i quiet_sends;
          processes = send-processes (decode table) j i;
          messages = send-messages (decode table) j i;
          limits = send_limits (decode table) j i (facts table q.accepted).limits (leb-false most_messages _ (quiet_by q 14));
        }

  -- what a receipt and a checkpoint leave
  received : {i : ℕ} {list : List ℕ} {s : Step} {after : Table} → table_refusal table ≡ 0 → step (decode table) s ≡ after
      → Receives (decode table) i list after → Limits after → Taken table s after (message_count (decode table))
  received accepted gives r limits =
      record { accepted = accepted; gives = gives; processes = r.same_processes; messages = receives_messages r; limits = limits }

  module _ (i : ℕ) (list : List ℕ) (q : QuietCall table (receipt_call_checks table i list)) where
    quiet_receives : first_caught (receipt_checks (decode table) i list) ≡ 0
    unfolding receipt_call_checks receipt_checks table_checks caught_by
    quiet_receives = passed _ _ 0 (quiet_by q 10) (passed _ _ 0 (quiet_by q 13) (passed _ _ 0 (quiet_by q 24) quiet_none))

    pub can_receive : CanReceive table i list
    can_receive = record {
      accepted = q.accepted;
      known = receipt_known (decode table) i list quiet_receives;
      waiting = receipt_positions (decode table) i list quiet_receives;
    }

    pub receipt_judged : Judged
        (step_promise table (receipt_call_checks table i list) (receive i list) (after_receipt (decode table) i list) (message_count (decode table)))
    receipt_judged =
        step_judged q.quiet
        (received q.accepted (receive_step (decode table) i list quiet_receives) (receipt_receives (decode table) i list)
        (receipt_limits (decode table) i list (facts table q.accepted).limits))

  pub checkpoint_judged : (i : ℕ) (list : List ℕ) → QuietCall table (checkpoint_call_checks table i list)
      → Judged
      (step_promise table (checkpoint_call_checks table i list) (checkpoint i list) (after_checkpoint (decode table) i list) (message_count (decode table)))
  unfolding checkpoint_call_checks receipt_call_checks receipt_checks table_checks caught_by
  checkpoint_judged i list q =
      step_judged q.quiet
      (received q.accepted (checkpoint_step (decode table) i list (quiet_receives i list (quiet_receipt table i list q)))
      (checkpoint_receives (decode table) i list)
      (checkpoint_limits (decode table) i list (facts table q.accepted).limits (leb-false most_checkpoints _ (quiet_by q 14))))

  pub rollback_judged : QuietCall table (table_checks table) → {m : ℕ} → m ≡ message_count (after_rollback (decode table))
      → Judged (step_promise table (table_checks table) rollback (after_rollback (decode table)) m)
  rollback_judged q m_is =
      step_judged q.quiet record {
        accepted = q.accepted;
        gives = rollback_step (decode table);
        processes = rollback-processes (decode table);
        messages = sym m_is;
        limits = rollback_limits (decode table) (facts table q.accepted).well_formed (facts table q.accepted).limits;
      }

-- a receipt of nothing answers the table's own bytes
pub nothing_copied : (table : List ℕ) → table_refusal table ≡ 0 → AreBytes table → (i : ℕ) → encode (after_receipt (decode table) i []) ≡ table
nothing_copied table accepted bytes i = ap encode (receipt_of_nothing (decode table) i) ∙ rewritten table (facts table accepted) bytes
