-- A bit as the number 0 or 1, where omega reads it.
pub mod Digits
-- A bit as a test; the word of given bits.
pub mod Bits
-- How many bits are set.
pub mod Counts
-- The least set bit.
pub mod Lowest
-- the members of a word above one of them
pub mod Masks
