-- Order of reading:
-- 1. when links and figures are sound
pub mod Sound
-- 2. the refusals that calls on a map share
pub mod Refusals
