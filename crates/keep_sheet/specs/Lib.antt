-- What must be kept (docs/MANUAL.md, "The keep sheet").
--     Sheet      the checkpoints and messages that are kept, and the bytes of the sheet
pub mod Sheet
