-- Numbers in decimal.
pub mod Decimal
-- A text put into a buffer from a place on. Nobody has to believe this file.
pub mod Placed
-- What a reader finds at the front of a text.
pub mod Front
-- The number at the front of a text. `decimal_reads` and `decimal_written` (proofs/Strips) settle
-- it by `decimal` alone.
pub mod Strip
