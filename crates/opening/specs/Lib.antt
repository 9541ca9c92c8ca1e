-- what a notice that is handed on asks for
pub mod Asked
