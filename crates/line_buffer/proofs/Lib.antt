-- The line buffer: the bytes of a piece up to the end of a line.
pub mod Holding
-- A line that stands whole.
pub mod Whole
-- A report behind what is written.
pub mod Putting
-- Where a step stops.
pub mod Stops
