-- The laws of the code of a rollback.
--     RollbackLaws      what a rollback leaves, as the code finds it message by message
mod RollbackLaws
