-- The lines of an input one after the other.
pub mod Lines
-- How many they are.
pub mod Counting
-- A scan of the lines, and the numbers left over.
pub mod Scans
-- The entries: numbers, codes, those that wait.
pub mod Entries
-- The refusals one by one.
pub mod Refusals
-- Worked batches, computed.
pub mod Examples
