-- The laws of the code that writes the sheet.
--     PutLaws     numbers put into a buffer
--     PartLaws    the parts of the sheet, put one after another
mod PartLaws
mod PutLaws
