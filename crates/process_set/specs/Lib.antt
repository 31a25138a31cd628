-- What the contracts of the process sets cite.
-- Assumes nothing.
pub mod Sets
