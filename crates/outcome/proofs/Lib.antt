-- The discriminants of the refusals.
pub mod Numbering
-- Calls that are refused, and calls that are not.
pub mod Answers
