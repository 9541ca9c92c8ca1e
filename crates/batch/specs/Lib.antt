-- Lines of a batch. Order of reading:
-- 1. what each line asks to open, and what refuses the whole batch
pub mod Lines
-- 2. small words for contracts. Nobody has to believe this file
pub mod Steps
