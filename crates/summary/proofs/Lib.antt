-- the destinations searched, one after the other
pub mod Totalling
-- what all searches leave: the tables, the counts, and the sums
pub mod Leaving
-- the refusals, and what an accepted report leaves
pub mod Accepts
-- which refusals, and what accepted reports answer and leave: by the published words
pub mod Theorems
