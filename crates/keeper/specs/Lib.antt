-- How the code tells what a call yields.
--     Outcomes    the number and the length that a result stands for
pub mod Outcomes
