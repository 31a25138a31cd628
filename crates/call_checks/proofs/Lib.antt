-- The laws of the calls' checks.
--     RefusalLaws    the checks of a call on a table
--     OrderCases     the cases of their order, by computation
pub mod OrderCases
pub mod RefusalLaws
