-- The laws of the code of sweep.
--     SweepLaws    what a sweep keeps
mod SweepLaws
