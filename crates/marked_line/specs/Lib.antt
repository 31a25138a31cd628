-- The line by marking, as the code finds it.
--     Marking    marks in a lent buffer, and what the functions that set them leave
pub mod Marking
