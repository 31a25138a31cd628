-- The laws of the lines of single holders.
--     PropagationLaws    the processes from which a rollback propagates
--     ScratchLaws        lines in a scratch
--     FillLaws           a loop that writes the lines of single holders
mod FillLaws
mod PropagationLaws
pub mod ScratchLaws
