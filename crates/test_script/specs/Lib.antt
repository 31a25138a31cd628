-- What a test script says.
--     Scripts     the lines of a script: their words, and what their numbers say
pub mod Scripts
