-- What no refusal says; the refusals, by the code's tests.
pub mod Refuses
-- The refusals, by the published words.
pub mod Refusals
-- The turns of a batch, one by one.
pub mod Turns
-- The theorems: what stays, the network after a batch, true figures.
pub mod Theorems
-- The marks: those of the last accepted opening.
pub mod Marks
