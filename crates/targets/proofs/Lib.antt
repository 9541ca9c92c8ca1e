-- the set bits of a word, one after the other
pub mod Words
-- the words of a row, one after the other
pub mod Rows
-- the words of two rows
pub mod Meets
-- the targets at a hop, and how far they lie
pub mod Partners
