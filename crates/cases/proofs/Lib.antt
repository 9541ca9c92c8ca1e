-- Pairs of the open depots are all pairs.
pub mod Listings
-- The paths are networks that a map can hold.
pub mod Paths
-- A path reckoned on lent memory.
pub mod Reckonings
-- The stream's openings on lent memory.
pub mod Lines
-- THE THEOREM: the table of cases.
pub mod Theorems
-- The second table.
pub mod Rules
