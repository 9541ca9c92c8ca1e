-- A run over notice files: its lines, and its whole text.
pub mod Run
-- The calls that write the lines into lent memory, on which a run over files stands: nobody has to believe this file.
pub mod Calls
