-- Lines brought down, by the messages of two parts of a table.
--     Lowered    those messages; a line that was brought down from another one
pub mod Lowered
