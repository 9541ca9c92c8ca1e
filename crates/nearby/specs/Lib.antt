-- The calls on depots near one. Order of reading:
-- 1. the depots within so many handovers, on lent memory
pub mod WithinCall
-- 2. the nearest depot of a list, on lent memory
pub mod NearestCall
-- 3. which refusals they give, by rule 8.1
pub mod Refusals
-- 4. what accepted calls answer and leave, by the published words
pub mod Correct
-- 5. the code's inner steps. Nobody has to believe this file
pub mod Steps
