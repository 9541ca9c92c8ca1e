-- Bounds and marks of the remaining depots. Nobody has to believe this file.
pub mod Bounds
-- The marks of a call that searched from one depot alone, or from two. Nobody has to believe this file.
pub mod Once
-- The slices of the marks as one value, for the contracts. Nobody has to believe this file.
pub mod Slices
