-- Places at messages.
--     Cursors    the cursors of a chase
pub mod Cursors
