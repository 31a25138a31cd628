-- The laws of the keeper's calls that join what the code found to what they answer.
--     OutcomeLaws    what an outcome tells where a check catches, where the answer fits, and as numbers
--     MarkingAnswers    the answers of the line by marking
--     StandingAnswers   the answers about named checkpoints that stand together
--     StepAnswers   the answers of the steps
pub mod MarkingAnswers
pub mod OutcomeLaws
pub mod StandingAnswers
pub mod StepAnswers
