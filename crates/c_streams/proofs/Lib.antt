-- What reader and writers leave.
pub mod Lines
-- What a step of the stream leaves.
pub mod Steps
