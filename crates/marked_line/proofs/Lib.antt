-- The laws of the line by marking, as the code finds it.
--     MarkRowLaws    the bits of a process, and a row of them that is set
--     MarkPassLaws   the passes over the messages
--     RootLaws       the roots: marks behind them, one that is marked, how they give way
--     StageLaws      what the code holds is a stage of the procedure
pub mod MarkRowLaws
pub mod MarkPassLaws
pub mod RootLaws
pub mod StageLaws
