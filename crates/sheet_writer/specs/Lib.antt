-- What the code reads and writes for the keep sheet.
--     SheetParts    the parts of the sheet, their numbers, and what putting them asks
--     Writing       numbers that are put into a buffer
--     Writers       writers that put them
pub mod SheetParts
pub mod Writers
pub mod Writing
