-- The laws of the sheet.
--     KeptLaws       what the sheet's lists hold, and their order
--     FewLaws        how long they are
pub mod FewLaws
pub mod KeptLaws
