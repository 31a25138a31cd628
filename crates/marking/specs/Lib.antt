-- The marking procedure on the checkpoint graph.
--     Procedure    its root set, its marks, its rounds, its end
--     SameLine     that it ends, and with the latest consistent line under the ceilings
pub mod Procedure
pub mod SameLine
