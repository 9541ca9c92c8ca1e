-- 1. the record as eleven words. Nobody has to believe `clamped_of`
pub mod Words
-- 2. the outcome of an answer's number
pub mod Outcomes
-- 3. the refusal of a stream's step
pub mod Refusal
-- 4. what a call on the record in the lent words leaves
pub mod Outs
