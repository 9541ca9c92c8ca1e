-- The line of a report, and the call that writes it into lent memory.
pub mod Line
