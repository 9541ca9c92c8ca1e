-- Where row u and its words stand among the words of a table.
pub mod Places
-- What is written is read.
pub mod Written
-- Rows and tables with the same bits are the same words.
pub mod Wholes
-- One bit put.
pub mod Puts
-- A loop that stores a word of a row a turn.
pub mod Turns
-- A loop that reads a word of a row a turn.
pub mod Scan
-- Words that are all 0, and words made 0.
pub mod Zeros
-- One word put.
pub mod WordPuts
-- A part of a buffer filled.
pub mod Filled
