-- Numbers in decimal: one step, length, characters, and that no two numbers are written alike.
pub mod Decimals
-- A text put into a buffer from a place on.
pub mod Places
-- A number put into a buffer, digit by digit, and a field.
pub mod Numbers
-- A number at the front of a text: reading undoes writing, and what reads was written.
pub mod Strips
-- Numbers written and read, computed.
pub mod Examples
