-- What `entry_checks` returns is the refusal of the parts: by check 5, by the first check of messages that catches, or by nothing.
use Rattle.run_table.proofs.EntryLaws.{refused_count, refused_message, refused_nothing}
use Rattle.run_table.proofs.checks.entry_checks.Goals as goal
use Rattle.std.proofs.Common.{sym, ◌∙◌}

pub returns-then-bad_count : goal.returns-then-bad_count
returns-then-bad_count c = refused_count _ _ _ _ _ (sym c.bad_count.ensures ∙ c.if-bad_count.true)

pub returns-in-Some : goal.returns-in-Some
returns-in-Some c =
    refused_message _ _ _ _ _ (sym c.bad_count.ensures ∙ c.if-bad_count.false) c.in-Some.ensures.1 c.in-Some.ensures.0 c.first_fault.ensures

pub returns-in-None : goal.returns-in-None
returns-in-None c = refused_nothing _ _ _ _ _ (sym c.bad_count.ensures ∙ c.if-bad_count.false) c.in-None.ensures
