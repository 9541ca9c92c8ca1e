-- The pieces of a line put one behind another, the totals, and what the calls leave.
pub mod Lines
-- The theorems: a line has room in 84 bytes, and the totals stay those of so many files.
pub mod Theorems
-- Runs over files, computed.
pub mod Examples
-- The report of a map is that of its network; the part of a buffer that is written.
pub mod Summed
