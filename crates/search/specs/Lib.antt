-- The search call. Order of reading:
-- 1. the call on lent memory
pub mod SearchCall
-- 2. which refusal it gives, by rule 8.1
pub mod Refusals
-- 3. what an accepted search answers and leaves, by the published words
pub mod Correct
