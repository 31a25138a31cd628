-- Lines as the code holds them.
--     Arrays    how high a process may stand
pub mod Arrays
