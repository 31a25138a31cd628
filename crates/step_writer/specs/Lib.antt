-- What the code of a receipt and of a checkpoint is given and writes.
--     Receipts    one that can be taken, and the table after it
pub mod Receipts
