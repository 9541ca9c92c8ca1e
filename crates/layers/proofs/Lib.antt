-- THE THEOREMS
pub mod Theorems
-- the hop table, one layer on
pub mod Hops
-- whose ends a search's links have
pub mod Ends
-- the codes left at the start
pub mod Leaving
-- where the code's loop stands
pub mod Searching
-- its turns by parity, and its end
pub mod Turning
-- the part of a row that is handed back as the last layer
pub mod Parts
