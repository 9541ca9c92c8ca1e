-- what holds in the midst of dropping, of whichever rows are done
pub mod RowsDone
-- the pairs that stay after a search, and the dropping of the others, as equations for the code.
-- Nobody has to believe this file
pub mod Stale
-- the codes nearer than so many handovers, by which whole words of pairs are dropped.
-- Nobody has to believe this file
pub mod Balls
