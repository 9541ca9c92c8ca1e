-- Every set bit passes a test.
pub mod Sets
-- The scan of a table's set bits, over any test.
pub mod Scans
-- The ones of a table, row by row.
pub mod Sums
-- Sound links and figures, from what the code finds.
pub mod Checks
-- What the checks mean.
pub mod Theorems
-- Refusals 2 and 3, by their tests.
pub mod Refusals
