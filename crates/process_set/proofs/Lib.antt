-- The laws of process sets that the proofs of this crate, and of the crates above it, cite.
-- Assumes nothing.
pub mod SetLaws
