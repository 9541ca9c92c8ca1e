-- Whole input and whole output of the stream: the lines of an input, and the report that each is
-- given.
pub mod Transcript
-- The same for any manner of telling a line's answer.
pub mod Manner
-- Texts as bytes.
pub mod Texts
