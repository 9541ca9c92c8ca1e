-- The letter and the number of each outcome of an opening call.
pub mod Outcome
-- Numbers of the table of refusals.
pub mod Numbers
-- The number of each refusal, and of what a test answers.
pub mod Refusals
-- The answer of a call, one scheme for every call.
pub mod Answers
