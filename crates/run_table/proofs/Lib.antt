-- The laws of this crate, for its own proofs.
--     EntryLaws    the checks in terms of the parts of a table's bytes
--     FaultLaws    checks of messages, as one loop finds them
--     ThroughLaws  the loop that goes through an accepted table
--     ScanLaws     counts and entries, as the code read them
mod EntryLaws
mod FaultLaws
mod ThroughLaws
mod ScanLaws
