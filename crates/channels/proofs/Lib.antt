-- The laws of this crate, for its own proofs and for the loop of `run_table`.
--     NeighbourLaws    each message beside the one before it in its channel is enough
--     ChannelLaws      what the code's tests say of a pair; what it knows of each channel
pub mod ChannelLaws
pub mod NeighbourLaws
