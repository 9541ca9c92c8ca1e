-- what a search over a table left of the targets
pub mod Reaches
-- the refusals of a search, and what an accepted one leaves
pub mod Accepts
-- which refusal, and what an accepted search leaves: by the published words
pub mod Theorems
