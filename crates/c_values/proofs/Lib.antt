-- The record in eleven words.
pub mod Words
-- Figures that are too large for the record's fields.
pub mod Clamps
-- The refusal of a stream's step.
pub mod Refusals
-- The theorems: words written are words read, and an answer's number names its outcome.
pub mod Theorems
-- Lent tables one by one.
pub mod Lent
-- A call on words that hold a record leaves what the call that it wraps leaves.
pub mod Outs
