-- The laws of futures.
--     FutureLaws     what a list of steps keeps of the run that it starts from
--     HeldLaws       held lines, and how they move over the steps
--     NeedLaws       what a future needs is on the sheet
--     WitnessLaws    what is on the sheet some future needs
--     UnsavedLaws    messages that were received and are unsaved
--     Demand3        the two together, and what follows for whoever discards
pub mod Demand3
pub mod FutureLaws
pub mod HeldLaws
pub mod NeedLaws
pub mod UnsavedLaws
pub mod WitnessLaws
