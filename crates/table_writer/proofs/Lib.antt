-- The laws of what a table is written of.
--     TablePutLaws    the parts of a table, put one after another
pub mod TablePutLaws
