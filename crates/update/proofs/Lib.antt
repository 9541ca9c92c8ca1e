-- The memory of a network, written, read back, whole.
pub mod Memories
-- What no refusal says; refusals 2 and 3 never come in a history.
pub mod Grants
-- What a call leaves on true stored figures.
pub mod Openings
-- A call's marks, number of searches and cover.
pub mod Marks
-- What an accepted call leaves in every table.
pub mod Tables
-- Which refusal a call gives.
pub mod Refusals
-- The empty map.
pub mod Empties
-- THE THEOREM: what a call gives.
pub mod Theorems
-- The refusals, by the code's tests.
pub mod Refuses
-- A call keeps a map that nothing refuses.
pub mod Keeps
-- How far one call moves the chain.
pub mod Movement
