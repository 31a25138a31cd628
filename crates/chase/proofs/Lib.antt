-- The laws of the code of chase.
--     BackLaws    what processes that go back keep
mod BackLaws
