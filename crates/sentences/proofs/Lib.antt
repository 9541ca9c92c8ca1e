-- The length of a sentence and of its parts, and the longest sentence.
pub mod Lengths
-- What the writer leaves, and the part that is handed back.
pub mod Calls
-- A text at the front of another, and a number behind it: reading undoes writing, and what reads was written.
pub mod Parts
-- Events and outcomes: reading undoes writing, and what reads was written.
pub mod Inverses
-- The theorems: reader and writer are inverse to each other, and no two outcomes share a sentence.
pub mod Theorems
-- One sentence of each start and each middle, both ways, and texts that are garbled, computed.
pub mod Examples
