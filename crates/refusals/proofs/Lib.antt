-- The laws of this crate, for its own proofs and for the crates above.
--     ExitLaws    what a call refuses that passes on a refusal by its first checks
pub mod ExitLaws
