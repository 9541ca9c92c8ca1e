pub mod Noted
pub mod Once
pub mod Dropping
pub mod Shrinking
pub mod Cases
