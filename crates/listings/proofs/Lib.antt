-- The laws of listings.
--     ShareLaws     the share
--     ShareCases    cases of it, by computation
--     ExampleA      the listing of example A, by computation
--     SizeLaws      how long a listing can be
pub mod ExampleA
pub mod ShareCases
pub mod ShareLaws
pub mod SizeLaws
