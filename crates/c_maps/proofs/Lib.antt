-- What emptying, the search and the whole reckoning leave.
pub mod Answers
-- What the calls on depots near one leave.
pub mod Nears
-- What the call of the network report leaves.
pub mod Summaries
