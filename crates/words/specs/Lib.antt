-- A word as a set of numbers: its bits, and the word of given bits.
pub mod Bits
-- The least set bit, and the word without it. Nobody has to believe this file.
pub mod Least
