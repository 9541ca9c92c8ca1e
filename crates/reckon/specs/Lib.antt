-- The whole reckoning. Order of reading:
-- 1. the call on lent memory
pub mod ReckonCall
-- 2. which refusal it gives, by rule 8.1
pub mod Refusals
-- 3. what an accepted reckoning answers and leaves, by the published words
pub mod Correct
