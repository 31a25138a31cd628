-- What a run may call for as it goes on (docs/MANUAL.md, "The keep sheet").
--     Futures    lists of steps; what is still there at their end, and what they need
--     Unsaved    messages that were received and are unsaved
--     Survival   what is still there, said of the whole list of steps
--     Demand3    the claim that the sheet lists exactly what futures need
pub mod Demand3
pub mod Futures
pub mod Survival
pub mod Unsaved
