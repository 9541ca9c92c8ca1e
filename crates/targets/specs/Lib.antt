-- What a search left of the targets.
-- 1. the hops of the targets. Nobody has to believe this file
pub mod Hops
-- 2. how far they lie from a depot, and its partners. Nobody has to believe this file
pub mod Reach
