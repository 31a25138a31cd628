-- The laws of the code of named checkpoints.
--     NamedLaws    chains that search the names; the ceiling that a loop builds; arrays of lines
pub mod NamedLaws
