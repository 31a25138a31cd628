-- The laws of test scripts.
--     ScriptLaws    lists that a line says, and its parts
mod ScriptLaws
