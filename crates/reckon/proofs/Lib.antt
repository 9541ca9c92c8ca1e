-- the refusals of a reckoning, and what an accepted one leaves
pub mod Reckons
-- THE THEOREM: what a call gives
pub mod Theorems
