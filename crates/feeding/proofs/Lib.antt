-- A stream's turns one after another, and what was handed on of what they told.
pub mod Turns
-- The whole output of what was read.
pub mod Whole
