-- Breadth-first layers over a table of links. Order of reading:
-- 1. what a search leaves in the hop table and the two layer rows. Nobody has to believe `Searched`, `searched` and `search_table`
pub mod Layers
-- 2. how it begins. Nobody has to believe this file
pub mod Begin
