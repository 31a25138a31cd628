-- What the program is given.
--     Input    an input, as far as it was read, and its listing
pub mod Input
