-- What the code of the checks of a list speaks of.
--     Entries    positions that do not wait, and messages that are passed over, by the entries of sends and receipts
pub mod Entries
