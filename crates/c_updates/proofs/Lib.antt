-- What opening and link leave.
pub mod UpdateOuts
-- What openings in a batch leave.
pub mod BatchOuts
-- The theorems: opening, link and batch are the calls of the same names on the record in the words.
pub mod Theorems
