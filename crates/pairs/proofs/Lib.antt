-- The number of pairs: one pair more, no pairs, and how many there can be.
pub mod PairCounts
-- A table with the number of its pairs: how it is read, and one pair put.
pub mod Tallies
-- One number's pairs with the members of a word: those above it at once, those below it one by one.
pub mod WordPairs
-- The loop of `add_pairs`: r with the members of a row, a word at a time.
pub mod Adding
-- What a search does to the pairs: r's own alone, r's own added, or nothing.
pub mod Settling
