-- The laws of the checkpoint graph.
--     GraphLaws    edges join states of the run; paths go on, and up a process
pub mod GraphLaws
