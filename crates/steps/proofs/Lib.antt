-- The laws of steps.
--     OrderLaws      the list of a receipt or a checkpoint: what it passes over, and how it rises
--     StepLaws       what each step does
--     SendOrderLaws  the messages of each sender stay in the order sent
pub mod OrderLaws
pub mod SendOrderLaws
pub mod StepLaws
