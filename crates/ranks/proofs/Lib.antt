-- The row of the remaining depots, read off a table of ranks.
pub mod Ranks
-- The pick of rule 5.4 is the first depot of the greatest rank.
pub mod Picking
-- The chains of the order, and how picks go on along them.
pub mod Order
