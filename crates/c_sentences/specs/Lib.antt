-- What the calls for other languages on sentences promise. Order of reading:
-- 1. what is said as numbers, and back. `said_numbers` and `numbers_said` (proofs/Inverses) settle
-- `said_of` by `numbers_of` alone
pub mod Numbers
-- 2. the calls
pub mod Outs
-- 3. which refusal each gives
pub mod Refusals
