-- What the program's functions say of its scratch.
--     Places      what a call leaves there
pub mod Places
