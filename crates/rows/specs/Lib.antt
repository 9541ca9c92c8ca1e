-- Rows and tables of bits in words of 64: how a bit is read, written and put. Nobody has to believe `put_bit`, `InTable` and `in_word`.
pub mod Rows
-- The next member of a row. Nobody has to believe this file.
pub mod Next
