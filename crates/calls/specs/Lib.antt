-- What each call of the keeper yields.
--     Answers    a refusal or an answer, and what they leave in what was lent
--     Calls      the answer of each call
--     Cases      its marked cases, and cases of later calls
pub mod Answers
pub mod Calls
pub mod Cases
