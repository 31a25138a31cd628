-- The checkpoint graph of a run, from its table alone.
--     Graph    states, edges, what leads to what
pub mod Graph
