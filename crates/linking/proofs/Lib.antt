-- What the parts of a link leave, put together.
pub mod Joined
