-- The laws of the code of lowering.
--     EveryLaws    what holds of every entry of an array
--     DownLaws     lines that are brought down, and a message that was read
--     PassLaws     what a pass over the messages keeps and finds
pub mod EveryLaws
pub mod DownLaws
mod PassLaws
