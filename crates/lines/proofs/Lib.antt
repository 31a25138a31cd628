-- The laws of the code of lines.
--     LineReads    the lines that the code finds, as arrays of 32 numbers
pub mod LineReads
