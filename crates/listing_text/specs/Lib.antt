-- What the code of a listing reads.
--     Rows       the rows as the code reads them off a scratch and a sheet
pub mod Rows
