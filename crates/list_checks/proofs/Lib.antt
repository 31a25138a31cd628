-- The laws of the checks of a list.
--     PositionLaws     a list that does not rise, and a position that does not wait
--     PassingLaws      the walk that finds what a list passes over
mod PassingLaws
mod PositionLaws
