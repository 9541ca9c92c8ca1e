-- Where a line ends.
pub mod Ends
-- What a byte's kind says of the frames that begin with it.
pub mod Bytes
-- The tests of a frame, and of digits that spell one.
pub mod Tests
-- What the two calls answer, way out by way out.
pub mod Answers
-- The theorems: reader and writer undo each other, so each frame has exactly one line.
pub mod Theorems
-- What the reader's answer says of the line, for callers of the reader.
pub mod Readings
-- The lines of rule 7.2, and one that opens a yard, computed.
pub mod Examples
-- The reader in one pass.
pub mod Passes
-- The tests of frames and lines are the published words.
pub mod Frames
-- Which refusals the two calls give.
pub mod Refusals
