-- Of the code: the checks of entries that the code has together. Assumes nothing.
use Rattle.std.specs.Prelude.{List, ℕ}
use Rattle.tables.specs.Format.{message_at}
use Rattle.run_table.specs.EntryChecks.{FirstMessage, MessageCheck, message_checks}
use Rattle.run_table.specs.declared.entries.Entries.{Entries}

-- Checks 6 to 9.
abbrev pub checks_of : Entries → List MessageCheck
checks_of e = message_checks e.n e.counts.now e.sends.now e.receipts.now

-- k is the first message that one of them catches or that is out of turn behind an earlier one, or m.
abbrev pub FirstOf : Entries → ℕ → Type 0
FirstOf e k = FirstMessage (checks_of e) (message_at e.sends.now e.receipts.now) e.m k
