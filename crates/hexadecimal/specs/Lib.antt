-- Hexadecimal digits, and the bytes that they spell.
pub mod Hex
-- What the table of digits holds. Nobody has to believe this file.
pub mod Table
