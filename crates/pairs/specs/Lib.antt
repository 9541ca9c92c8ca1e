-- The pair table with the number of its pairs: pairs added. Nobody has to believe this file.
pub mod Pairs
