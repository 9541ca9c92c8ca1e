-- The texts that are kept: the tens of a number, and the figures.
pub mod Texts
-- The pieces of a line, and the call.
pub mod Lines
-- The theorems: no two reports have the same line, and the longest line has 45 bytes.
pub mod Theorems
-- Two lines of rule 10.5, computed.
pub mod Examples
