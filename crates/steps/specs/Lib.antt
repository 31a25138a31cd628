-- How a run goes on (docs/MANUAL.md, "Steps").
--     Steps      send, receive, checkpoint and rollback on tables
--     SendOrder  the messages of each sender, in the order sent
pub mod SendOrder
pub mod Steps
