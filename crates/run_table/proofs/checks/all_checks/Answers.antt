-- `all_checks` makes checks 1 to 4 in the order of the list; `entry_checks` answers the rest.
use Rattle.run_table.proofs.EntryLaws.{refused_length, refused_messages, refused_parts, refused_processes, refused_short}
use Rattle.run_table.proofs.checks.all_checks.Goals as goal
use Rattle.run_table.proofs.checks.all_checks.Goals.{then-n-eq0-via-else-n-eq0+then-n-gt-MOST_PROCESSES, then-n-eq0-via-then-n-eq0}
use Rattle.std.proofs.Common.{◌∙◌}
use Rattle.tables.proofs.CheckLaws.{inside, outside_above, outside_zero}

pub returns-then-bytes-lt4 : goal.returns-then-bytes-lt4
returns-then-bytes-lt4 c = refused_short _ c.if-bytes-lt4.true

pub returns-then-n-eq0 : goal.returns-then-n-eq0
returns-then-n-eq0 c =
    refused_processes (record { n_is = c.u16_at-n.ensures; m_is = c.u16_at-m.ensures }) c.if-bytes-lt4.false (elim c.then-n-eq0.branch [
      | then-n-eq0-via-then-n-eq0 w ↦ outside_zero _ _ w.if-n-eq0.true
      | then-n-eq0-via-else-n-eq0+then-n-gt-MOST_PROCESSES w ↦ outside_above _ _ w.if-n-gt-MOST_PROCESSES.true
    ])

pub returns-then-m-gt-MOST_MESSAGES : goal.returns-then-m-gt-MOST_MESSAGES
returns-then-m-gt-MOST_MESSAGES c =
    refused_messages (record { n_is = c.u16_at-n.ensures; m_is = c.u16_at-m.ensures }) c.if-bytes-lt4.false
    (inside _ _ c.if-n-eq0.false c.if-n-gt-MOST_PROCESSES.false) c.if-m-gt-MOST_MESSAGES.true

pub returns-then-bytes-table_length : goal.returns-then-bytes-table_length
returns-then-bytes-table_length c =
    refused_length (record { n_is = c.u16_at-n.ensures; m_is = c.u16_at-m.ensures }) c.if-bytes-lt4.false
    (inside _ _ c.if-n-eq0.false c.if-n-gt-MOST_PROCESSES.false) c.if-m-gt-MOST_MESSAGES.false c.table_length.ensures c.if-bytes-table_length.true

pub returns : goal.returns
returns c =
    c.entry_checks.ensures
    ∙ refused_parts (record { n_is = c.u16_at-n.ensures; m_is = c.u16_at-m.ensures }) c.if-bytes-lt4.false
    (inside _ _ c.if-n-eq0.false c.if-n-gt-MOST_PROCESSES.false) c.if-m-gt-MOST_MESSAGES.false c.table_length.ensures c.if-bytes-table_length.false
    c.sends_at-sends_start.ensures c.receipts_at-receipts_start.ensures
