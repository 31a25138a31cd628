-- The laws of a rounded quotient.
--     RoundingLaws    what is computed is one, and just one number is
pub mod RoundingLaws
