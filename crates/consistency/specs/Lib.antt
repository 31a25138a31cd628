-- What a line of a run is, in the order of docs/MANUAL.md, "Lines". A line is a global checkpoint: one number for each
-- process.
--     Lines       orphans, consistent lines, the latest one under a ceiling
--     Lowering    the computed line: rollback propagation
--     Ceilings    ceilings, that of processes that do not checkpoint, their line, and the recovery line of a run
pub mod Ceilings
pub mod Lines
pub mod Lowering
