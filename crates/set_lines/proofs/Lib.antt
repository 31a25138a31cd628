-- The laws of the lines of sets.
--     EachLaws    the lines of sets, put one after another
pub mod EachLaws
