-- The worked cases of the rules, on lent memory. Order of reading:
-- 1. what a call left, read as numbers and pairs
pub mod Results
-- 2. THE TABLE: the numbers, and a claim for each case
pub mod Table
-- 3. a second table: a shrink that the rules do not work out. Nobody has to believe this file
pub mod Rules
