-- Marks in a lent buffer.
--     Room    how many bytes the marks of a run take; a buffer whose first bytes are cleared
--     Bits    the bit of a state, and bits that are set
pub mod Bits
pub mod Room
