-- Frames and the lines that spell them: what a line reads as, and the line of a frame.
pub mod Lines
-- The byte of each kind of frames, and the kind of a byte. Nobody has to believe this file.
pub mod Kinds
-- The reader's and the writer's call on lent memory: answer and every byte.
pub mod Calls
-- Which refusals the two calls give, in the published words.
pub mod Refusals
