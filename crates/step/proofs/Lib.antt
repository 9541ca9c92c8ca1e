-- What refuses a step on a map that nothing refuses.
pub mod Judged
