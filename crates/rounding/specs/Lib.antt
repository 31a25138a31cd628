-- What a rounded quotient is.
--     Rounding    a quotient as a whole number
pub mod Rounding
