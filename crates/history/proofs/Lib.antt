-- A table lent and restored.
pub mod Lendings
-- One call of a history.
pub mod Steps
-- Lists of calls.
pub mod Runs
-- Arrival order.
pub mod Orders
-- THE THEOREM: every history.
pub mod Theorems
-- How far calls move the chain.
pub mod Movement
