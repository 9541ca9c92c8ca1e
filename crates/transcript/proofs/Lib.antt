-- Worked inputs, by computation.
pub mod Examples
-- Told as reports, an input has the transcript.
pub mod Manners
