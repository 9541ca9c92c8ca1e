-- The figures after a link between two open depots. Order of reading:
-- 1. what the step leaves, by the network's own linking. Nobody has to believe this file: the call that links says the same
pub mod Relinked
-- 2. the steps of the code. Nobody has to believe this file
pub mod Steps
