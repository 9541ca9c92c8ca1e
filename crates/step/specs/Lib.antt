-- what a call that changes a map asks for
pub mod Asks
