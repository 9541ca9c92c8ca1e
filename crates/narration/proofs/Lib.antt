-- A sentence on a line, behind what is written.
pub mod Putting
-- What is said of a line lies within its widths.
pub mod Widths
-- The theorems: the narration is the transcript in other words.
pub mod Theorems
-- Worked inputs, by computation.
pub mod Examples
