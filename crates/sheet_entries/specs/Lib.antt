-- What is kept, as lines say it.
--     Kept       what n lines say is kept
pub mod Kept
