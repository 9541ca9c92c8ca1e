-- What the calls for other languages that change a network promise: the call that each wraps, in
-- numbers and lent words (crate c_values has the record's words). Order of reading:
-- 1. opening and link
pub mod UpdateOuts
-- 2. openings in a batch
pub mod BatchOuts
