-- The memory of one map. Order of reading:
-- 1. the shape of a map, and what its words mean. Nobody has to believe `table_network`
pub mod Memory
-- 2. the room that calls are lent: tables and sizes. Nobody has to believe `sizes`
pub mod Room
-- 3. which bits of its tables may stand. Nobody has to believe `IsLent`
pub mod Bits
-- 4. its depots in rising code. Nobody has to believe this file
pub mod Depots
-- 5. emptying a map
pub mod Empty
-- 6. the lent slices as one value, for the contracts. Nobody has to believe `sizes_at`
pub mod Slices
