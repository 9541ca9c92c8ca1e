-- A run over files: what was read of them, and what is written.
pub mod Surveys
