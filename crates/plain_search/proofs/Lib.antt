-- Codes that rise.
pub mod Rising
-- The links of a new depot.
pub mod Linked
