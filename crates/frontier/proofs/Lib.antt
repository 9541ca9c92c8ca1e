-- What a set of members is linked to, and its hops.
pub mod Links
-- Visits one after another.
pub mod Goes
-- The members of a word and of a layer, one by one.
pub mod Members
-- A visit of a layer's members.
pub mod Visits
-- The hops of a last layer's members.
pub mod Marks
-- The two passes over next in a step.
pub mod Passes
-- One step.
pub mod Stepping
-- One step over rows of four words.
pub mod Straight
