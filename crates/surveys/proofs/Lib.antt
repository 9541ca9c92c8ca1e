-- What was read of a file, and the map after it.
pub mod Follow
-- The lines of a run, one behind another.
pub mod Lines
