-- The laws of marks in a lent buffer.
--     BitLaws       a bit that is set, a row of bits, a buffer that is cleared; how many bits are not set
--     LayoutLaws    where the bits of a process stand
pub mod BitLaws
pub mod LayoutLaws
