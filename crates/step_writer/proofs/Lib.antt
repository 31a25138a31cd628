-- The laws of the code of send, receipt and checkpoint.
--     SendLaws          what a step has read of a table; the bytes of the table after a send
--     ListedLaws        the receipts that a list changes
--     ReceiptLaws       the bytes of the table after a receipt or a checkpoint
mod ListedLaws
mod ReceiptLaws
pub mod SendLaws
