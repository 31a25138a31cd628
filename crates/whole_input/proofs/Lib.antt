-- The laws of reading.
--     InputLaws    what a read adds to what was read
mod InputLaws
