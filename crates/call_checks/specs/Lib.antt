-- What each call of the keeper checks.
--     CallChecks    the checks of each call before 16, in checking order
--     OrderCases    cases of that order
pub mod CallChecks
pub mod OrderCases
