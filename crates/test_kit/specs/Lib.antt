-- What the functions of the test programs promise.
--     Buffers     what they write to a buffer, and what a test says of one
--     Guards      what a call leaves in a guarded buffer, and what is around it
--     Tables      the tables that they build
pub mod Buffers
pub mod Guards
pub mod Tables
