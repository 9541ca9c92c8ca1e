-- The call of the network report. Order of reading:
-- 1. the report on lent memory
pub mod SummaryCall
-- 2. which refusals it gives, by rule 8.1
pub mod Refusals
-- 3. what an accepted report answers and leaves, by the published words
pub mod Correct
-- 4. the code's inner steps. Nobody has to believe this file
pub mod Steps
