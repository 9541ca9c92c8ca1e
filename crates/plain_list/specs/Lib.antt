-- one step of the plain list
pub mod PlainList
