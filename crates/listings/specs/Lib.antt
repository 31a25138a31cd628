-- What the listing of a table says.
--     Listing    the listing of a table
--     ShareCases cases of the share
--     ExampleA   the listing of example A
pub mod ExampleA
pub mod Listing
pub mod ShareCases
