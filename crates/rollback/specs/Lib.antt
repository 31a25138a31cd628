-- What the code of a rollback is given and writes.
--     Rollback    a table at its recovery line; a receipt beside it
pub mod Rollback
