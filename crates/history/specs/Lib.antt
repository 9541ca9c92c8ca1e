-- Lists of calls on one map, and what holds of every list. Order of reading:
-- 1. the plain list over a whole list of calls
pub mod PlainRun
-- 2. lists of calls on one map
pub mod History
-- 3. EVERY HISTORY
pub mod HistoriesAgree
-- 4. how far calls can move the chain
pub mod Movement
