-- The laws of lines, over messages and a ceiling, for every crate above.
--     LineLaws        consistent lines, and the latest one under a ceiling: what it is and how it moves
--     LoweringLaws    the computed line is the latest one
--     CeilingLaws     ceilings, and the lines of processes that do not checkpoint
--     HolderLaws      the lines of single holders
pub mod CeilingLaws
pub mod HolderLaws
pub mod LineLaws
pub mod LoweringLaws
