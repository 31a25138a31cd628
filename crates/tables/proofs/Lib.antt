-- The laws of this crate, for its own proofs and for the crates above.
--     ArrayLaws     arrays of 32 numbers that begin with a list, and a loop that fills one
--     ListLaws      lists given by their entries; searches in lists and among numbers
--     SearchedLaws  a loop that looks for a number that passes a test
--     SelectLaws    loops that search numbers, and that select those that pass a test
--     NumberLaws    16-bit numbers in bytes
--     FormatLaws    the parts of a table's bytes, and the entries of the decoded table
--     CodingLaws    reading and writing undo each other
--     CheckLaws     the first check that catches; checks 1 to 4
--     TurnLaws      channels that deliver in turn
--     AcceptLaws    an accepted table's facts
--     ReadLaws      what the code knows of an accepted table once it has read N and M
--     RefusedLaws   refusals and their numbers; a refusal that is passed on
pub mod AcceptLaws
pub mod ArrayLaws
pub mod CheckLaws
pub mod CodingLaws
pub mod FormatLaws
pub mod ListLaws
pub mod NumberLaws
pub mod ReadLaws
pub mod RefusedLaws
pub mod SearchedLaws
pub mod SelectLaws
pub mod TurnLaws
