-- The sixteen digits.
pub mod DigitLaws
-- Bytes to digits and back.
pub mod Spelling
-- Two digits for each byte, judged and spelt in one pass.
pub mod Pairs
-- What the table of digits says of two characters.
pub mod Values
