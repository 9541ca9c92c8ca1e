-- The loop over the turns of a batch.
pub mod Progress
-- The call, from the answers of the code's calls.
pub mod Calls
