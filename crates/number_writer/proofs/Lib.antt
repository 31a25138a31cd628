-- The laws of numbers put into a buffer.
--     WriteLaws    numbers that a loop puts, one after another
--     PlaceLaws    bytes put at two places of one buffer
pub mod PlaceLaws
pub mod WriteLaws
