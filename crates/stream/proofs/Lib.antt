-- The beginning.
pub mod Begins
-- What the reader's answer says of the line, and the answer to it.
pub mod Answers
-- The bytes of a piece, part by part; what holds at each turn of the loop.
pub mod Feeds
-- The lines of an input, and the held bytes of a line.
pub mod Lines
-- A line on lent memory is the line on the network.
pub mod Following
-- The bytes one by one, against the lines of the whole input.
pub mod Runs
-- The turns, and the end of the input.
pub mod Turning
-- THE THEOREMS: however the input is cut into pieces, the output is the definition's.
pub mod Theorems
