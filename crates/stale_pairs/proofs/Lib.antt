-- The loop of `sift`: the stale members of one word, a member at a time.
pub mod Sifting
-- The same of a whole word at once, and the loop of `greatest_way`.
pub mod Wholes
-- Balls, made row by row and read.
pub mod Balls
-- The loop of `drop_row`: the stale pairs of one row, a word at a time.
pub mod StaleRow
-- Rows done by any test, in any order, and when the rest has no pair.
pub mod RowSets
-- What two sets of rows make, one after the other, also where one is a part of the other.
pub mod RowUnions
-- Rows without a pair: groups of 8, one row, or none.
pub mod BareRows
-- The rows that are thought to have a pair: the next, and all that have one.
pub mod LikelyRows
-- The loops of `drop_likely` and `drop_dense_rows`: a row at a time; what one call or two of the first make of all rows, which are the table.
pub mod StaleTable
-- What that says for every set of rows, and a table computed.
pub mod RowsDone
-- What the callers keep: a counted table, and what the greatest way says.
pub mod Theorems
