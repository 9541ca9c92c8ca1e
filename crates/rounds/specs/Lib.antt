-- Reference rounds over lent memory. Order of reading:
-- 1. what rounds leave in lent memory, by the network's rounds. Nobody has to believe `Ran`, `ran` and `ran_by`
pub mod Leaves
-- 2. the steps of the code's rounds, over lists of words and numbers. Nobody has to believe this file
pub mod Workspace
-- 3. the network that the code's steps are told by a row of targets. Nobody has to believe this file
pub mod Targets
-- 4. what is lent to the rounds as one value, for the contracts. Nobody has to believe this file
pub mod Slices
