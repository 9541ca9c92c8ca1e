-- What the parts of an opening leave, put together.
pub mod Placed
