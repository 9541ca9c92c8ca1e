-- The step on lent memory: answer and every byte.
pub mod Feeding
-- What is proved: however the input is cut into pieces, the output is the transcript.
pub mod Pieces
