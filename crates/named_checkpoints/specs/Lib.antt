-- Of the code of named checkpoints.
--     Lists    what its functions may assume of the two lists
pub mod Lists
