-- tests as facts
pub mod Tests
-- members of lists
pub mod Members
-- counts, sums and greatest values
pub mod Counts
-- sums in two orders, and counts by halves
pub mod Sums
-- lists without repeats
pub mod Distinct
-- counts of the numbers below n
pub mod RangeCounts
-- sums, counts and greatest values over the numbers below n, a number at a time
pub mod Ranges
-- those of the numbers below n that pass a test, a number at a time
pub mod Filters
-- a loop that stores one element a turn
pub mod Fills
-- buffers whose first places are filled
pub mod Buffers
-- Lists put together.
pub mod Appends
-- tests that decide conditions, and the first that holds
pub mod Conditions
-- a list written over a buffer element by element
pub mod Copies
-- loops that an element decides
pub mod Scans
-- lists of numbers renamed
pub mod Renamed
-- lists sorted by keys
pub mod Rising
