-- a search tells connectedness
pub mod Connects
-- the refusals 1 to 3, by the code's tests and by the published words
pub mod Refuses
-- the refusals 1 to 3 before what a call looks at besides
pub mod Passes
