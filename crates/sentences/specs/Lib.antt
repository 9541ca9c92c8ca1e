-- Outcomes as sentences. Order of reading:
-- 1. the sentence of what is said, and the widths of its numbers
pub mod Sentence
-- 2. readers of what stands at the front of a text, and how they are joined
pub mod Readers
-- 3. what a sentence says. `reads_written` and `written_reads` (proofs/Theorems) settle it by the
-- sentence alone
pub mod Reading
-- 4. the writer's call on lent memory: answer and every byte
pub mod Calls
