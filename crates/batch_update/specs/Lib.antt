-- A batch of openings on lent memory. Order of reading:
-- 1. the call
pub mod BatchCall
-- 2. which refusal it gives, by rule 8.1
pub mod Refusals
-- 3. what a batch gives
pub mod Correct
-- 4. the codes open after a batch
pub mod Largest
-- 5. marks: those of the last accepted opening
pub mod Marks
-- 6. small words for laws. Nobody has to believe this file
pub mod Steps
