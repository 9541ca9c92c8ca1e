-- What the calls for other languages on lines promise: the call that each wraps, in numbers and
-- lent words (crate c_values has the record's words). Order of reading:
-- 1. notice lines and report lines
pub mod Lines
-- 2. the step of the stream
pub mod Feeds
