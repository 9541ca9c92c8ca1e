-- the network of an open set and a row of targets
pub mod Targets
-- what a search of the network says of its start
pub mod Reaching
-- what the workspace holds of the network's rounds
pub mod Holding
-- pairs of a round
pub mod Pairing
-- bounds, marks and remaining depots of a round
pub mod Marking
-- THE CODE'S ROUNDS ARE THE NETWORK'S
pub mod Simulation
-- their start, and what they leave at the end
pub mod Finish
-- the bound that every remaining depot has
pub mod Level
-- the code's functions put together
pub mod Turns
-- the tables that they leave, read back
pub mod Reading
