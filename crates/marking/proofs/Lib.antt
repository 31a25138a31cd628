-- The laws of the marking procedure.
--     ReachLaws      what is strictly reachable from a root set is known: the states from a number on, of each process
--     RoundLaws      what holds after some rounds, and how a round is made
--     SameLine       the procedure ends, with the latest consistent line under the ceilings
pub mod ReachLaws
pub mod RoundLaws
pub mod SameLine
