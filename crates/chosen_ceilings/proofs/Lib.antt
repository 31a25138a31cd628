-- The laws of the code of chosen ceilings.
--     ChosenLaws    the ceilings that a chain compares; an array of ceilings, and the line under it
mod ChosenLaws
