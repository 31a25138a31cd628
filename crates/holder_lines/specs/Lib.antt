-- The lines of single holders, as the code finds and holds them.
--     Propagation    whether a rollback of a process propagates
--     Scratch        lines that stand in a scratch
--     Held           the lines of a scratch that holds them
pub mod Held
pub mod Propagation
pub mod Scratch
