-- The laws of what the calls answer.
--     AnswerLaws    what a refusal and an answer leave
--     LineAnswers   the answers of the line calls
--     MarkedCases   the marked cases, and cases of later calls
--     SetAnswers    the answer of the call on many sets
--     SheetBytes    the keep sheet, read back from the buffer
--     SheetAnswer   the scratch of the keep sheet
pub mod AnswerLaws
pub mod LineAnswers
pub mod MarkedCases
pub mod SetAnswers
pub mod SheetAnswer
pub mod SheetBytes
