-- The manner in which outcomes are told as sentences, and the whole output of an input that is told
-- so.
pub mod Narration
-- What is proved: both manners tell the same answers.
pub mod Answers
