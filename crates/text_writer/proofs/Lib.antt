-- The laws of text.
--     TextLaws      text over a buffer, decimal numbers, rows
pub mod TextLaws
