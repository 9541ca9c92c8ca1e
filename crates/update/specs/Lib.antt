-- Calls that change a network, whatever they ask. Order of reading:
-- 1. the call on lent memory, over updates
pub mod UpdateCall
-- 2. a map
pub mod Memory
-- 3. what a map's memory says of a network, marks and cover
pub mod Represents
-- 4. which refusal a call gives
pub mod Refusals
-- 5. what an update gives
pub mod Correct
-- 6. what an accepted call leaves in every table
pub mod Tables
-- 7. small words for contracts, and the refusal of the lent map alone, which the stream's step cites
pub mod Steps
-- 8. how far one call can move the chain
pub mod Movement
