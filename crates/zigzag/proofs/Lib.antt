-- The laws of zigzag paths.
--     NameLaws        the ceiling of named checkpoints, process by process
--     ZigzagLaws      what a zigzag path says of a consistent line
--     TogetherLaws    the theorem: checkpoints stand together just where no zigzag path joins them
pub mod NameLaws
pub mod TogetherLaws
pub mod ZigzagLaws
