-- Text in ASCII.
--     Text       decimal numbers, fields and rows; text in a buffer
--     Writers    writers that put text
pub mod Text
pub mod Writers
