-- What a reading loop leaves: the stream's turns, and the bytes read and written.
pub mod Reading
