-- The refusals 1 to 3, as tests and in the published words.
pub mod Faults
