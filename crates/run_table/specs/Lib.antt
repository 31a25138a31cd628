-- How the code makes the checks of a table.
--     Entries        the checks of entries that the code has together
--     EntryChecks    the checks of counts and messages, entry by entry, on the parts of a table's bytes
pub mod Entries
pub mod EntryChecks
