-- The laws of the code of a listing.
--     RowLaws       the rows as the code reads them
--     ListingLaws   what the code reads is the listing of the table
pub mod ListingLaws
mod RowLaws
