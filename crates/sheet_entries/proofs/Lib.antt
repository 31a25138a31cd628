-- The laws of the code that finds what is kept.
--     ChainLaws     what chains over the numbers below n find
--     SearchLaws    what is found over n lines
--     FoundLaws     what lines of single holders say is kept is the keep sheet
mod ChainLaws
pub mod FoundLaws
pub mod SearchLaws
