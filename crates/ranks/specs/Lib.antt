-- Who remains, by a table of ranks, and who is searched from next. Nobody has to believe this file.
pub mod Ranks
-- The order in which they are picked, as chains of codes. Nobody has to believe this file.
pub mod Order
