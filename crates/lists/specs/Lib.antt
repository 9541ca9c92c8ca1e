-- Small functions on lists and tests, which every specification of this repository uses.
pub mod Lists
-- the refusals of a call, in words
pub mod Conditions
-- lists sorted by keys. No call cites it yet: nobody has to believe this file
pub mod Rising
