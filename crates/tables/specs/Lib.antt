-- What a run table's bytes say, in the order of docs/MANUAL.md, "The run table" and "Refusals".
--     Lists      lists that are given by their entries, and searches
--     Numbers    16-bit numbers in bytes
--     Table      messages and tables, free of bytes
--     Format     the bytes of a table, read (decode) and written (encode)
--     Checks     the checks of a table, the refusal, and what an accepted table satisfies
--     Fields     the numbers of a message, by name
--     Arrays     numbers of processes, as an array of the code; a list that is filled from the front
--     Parts      what the code may assume of the parts of an accepted table
--     Refusals   the refusals by name, their numbers, and that of a result
pub mod Arrays
pub mod Checks
pub mod Fields
pub mod Format
pub mod Lists
pub mod Numbers
pub mod Parts
pub mod Refusals
pub mod Table
