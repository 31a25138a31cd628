-- How the code finds a channel that is out of turn.
--     Neighbours    a message beside the one before it in its channel
pub mod Neighbours
