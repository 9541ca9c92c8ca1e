-- The figures after an opening. Order of reading:
-- 1. what the step leaves, by the network's own opening. Nobody has to believe this file: the opening call says the same
pub mod Figured
-- 2. the steps of the code. Nobody has to believe this file
pub mod Steps
