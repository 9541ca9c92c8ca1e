-- What the calls for other languages on a map promise: the call that each wraps, in numbers and
-- lent words (crate c_values has the record's words). Order of reading:
-- 1. emptying, the search, the whole reckoning
pub mod Outs
-- 2. the calls on depots near one
pub mod Nears
-- 3. the network report
pub mod Summaries
-- 4. the version of the interface
pub mod Version
